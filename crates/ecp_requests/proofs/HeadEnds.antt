-- A head ends at its first empty line.
use Rattle.std.proofs.Common.{◌≡◌, ◌≢◌, ℕ, zero, suc, ◌+◌, ◌<◌, ◌≤◌, Bool, true, false, not, ◌==◌, List, [], ◌∷◌, ◌++◌, length, get_or, IsTrue, All, codes, sym, refl, ap, ◌∙◌, subst, arith, append_assoc, length-append, ◌⊎◌, inl, inr, ⊎_elim}
use Rattle.std.specs.List.{flat_map, list_all}
use Rattle.std.proofs.lemmas.Bool.{both_ways, and_parts, not-true, eq-eqb}
use Rattle.std.proofs.lemmas.List.Elements.{All-nil, All-cons, All-head, All-tail, All-append, All-weaker}
use Rattle.httparse.specs.Grammar.{LineEnd, crlf, lf, print_end, print_blank, print_version, Field, print_field, IsField, print_section, RequestHead, IsRequestHead, print_request, is_token_byte, is_uri_byte, is_value_byte}
use Rattle.httparse.proofs.GrammarLemmas.{cons-append, print_request-append}
use Rattle.ecp_requests.specs.EmptyLines.{is_text}

abbrev pub NoLf : List ℕ → Type 0
NoLf bytes = All (λ b. b ≢ 10) bytes

-- bytes of the classes of a head are no LF

no_test : (test : ℕ → Bool) (x b : ℕ) → test x ≡ false → IsTrue (test b) → b ≢ x
no_test test x b refused passes = λ e. both_ways _ refused (subst (λ c. test c ≡ true) e passes)

token_no_lf : (b : ℕ) → IsTrue (is_token_byte b) → b ≢ 10
unfolding is_token_byte
token_no_lf b h = no_test is_token_byte 10 b refl h

token_no_cr : (b : ℕ) → IsTrue (is_token_byte b) → b ≢ 13
unfolding is_token_byte
token_no_cr b h = no_test is_token_byte 13 b refl h

uri_no_lf : (b : ℕ) → IsTrue (is_uri_byte b) → b ≢ 10
uri_no_lf b h = no_test is_uri_byte 10 b refl h

value_no_lf : (b : ℕ) → IsTrue (is_value_byte b) → b ≢ 10
value_no_lf b h = no_test is_value_byte 10 b refl h

-- a field line without its end
abbrev pub field_text : Field → List ℕ
field_text f = f.name ++ 58 ∷ f.raw

colon_no_lf : ◌≢◌ {A = ℕ} 58 10
colon_no_lf e = absurd (omega arith)

field_no_lf : (f : Field) → IsField f → NoLf (field_text f)
field_no_lf f h =
    All-append (λ b. b ≢ 10) f.name (58 ∷ f.raw) (All-weaker _ _ token_no_lf f.name h.name.1)
    (All-cons (λ b. b ≢ 10) 58 f.raw colon_no_lf (All-weaker _ _ value_no_lf f.raw h.raw))

-- a line of text and its end, against the first LF of an empty line
abbrev pub Aligned : ℕ → ℕ → List ℕ → List ℕ → Type 0
Aligned line before rest after =
    ((front : List ℕ) × (before ≡ line + length front) × (rest ≡ front ++ 10 ∷ after)) ⊎ ((before + 1 ≡ line) × (rest ≡ after))

tail_same : (a b : ℕ) (xs ys : List ℕ) → a ∷ xs ≡ b ∷ ys → xs ≡ ys
tail_same a b xs ys e = cc

head_same : (a b : ℕ) (xs ys : List ℕ) → a ∷ xs ≡ b ∷ ys → a ≡ b
head_same a b xs ys e = ap (λ l. get_or l 0 0) e

aligned_end : (end : LineEnd) (rest before after : List ℕ) → print_end end ++ rest ≡ before ++ 10 ∷ after
    → Aligned (length (print_end end)) (length before) rest after
aligned_end lf rest [] after e = inr (refl, tail_same 10 10 rest after e)
aligned_end lf rest (b ∷ bs) after e = inl (bs, omega arith, tail_same 10 b rest (bs ++ 10 ∷ after) e)
aligned_end crlf rest [] after e = absurd (let bad = head_same 13 10 _ _ e in thirteen bad)
  where
    thirteen : ◌≡◌ {A = ℕ} 13 10 → ⊥
    thirteen e = omega arith
aligned_end crlf rest (b ∷ []) after e = inr (refl, tail_same 10 10 rest after (tail_same 13 b (10 ∷ rest) (10 ∷ after) e))
aligned_end crlf rest (b ∷ c ∷ bs) after e =
    inl (bs, omega arith, tail_same 10 c rest (bs ++ 10 ∷ after) (tail_same 13 b (10 ∷ rest) (c ∷ (bs ++ 10 ∷ after)) e))

aligned_more : (line before : ℕ) (rest after : List ℕ) → Aligned line before rest after → Aligned (suc line) (suc before) rest after
aligned_more line before rest after (inl h) = inl (h.0, (let is = h.1 in omega arith), h.2)
aligned_more line before rest after (inr h) = inr ((let is = h.0 in omega arith), h.1)

aligned : (line : List ℕ) (end : LineEnd) (rest before after : List ℕ) → NoLf line
    → line ++ (print_end end ++ rest) ≡ before ++ 10 ∷ after → Aligned (length line + length (print_end end)) (length before) rest after
aligned [] end rest before after h e =
    subst (λ n. Aligned n (length before) rest after) (let z : length (print_end end) ≡ 0 + length (print_end end) = omega arith in z) (aligned_end end rest before after e)
aligned (l ∷ ls) end rest [] after h e = absurd (All-head (λ b. b ≢ 10) l ls h (head_same l 10 _ _ e))
aligned (l ∷ ls) end rest (b ∷ bs) after h e =
    let inner = aligned ls end rest bs after (All-tail (λ b. b ≢ 10) l ls h) (tail_same l b _ _ e) in
    subst (λ n. Aligned n (suc (length bs)) rest after)
    (let s : suc (length ls + length (print_end end)) ≡ suc (length ls) + length (print_end end) = omega arith in s)
    (aligned_more (length ls + length (print_end end)) (length bs) rest after inner)

-- line ends

end_bounds : (end : LineEnd) → (1 ≤ length (print_end end)) × (length (print_end end) ≤ 2)
end_bounds lf = (omega arith, omega arith)
end_bounds crlf = (omega arith, omega arith)

first_end : (last end : LineEnd) (rest after : List ℕ) → print_end last ++ rest ≡ print_end end ++ after → length (print_end last) ≤ length (print_end end)
first_end lf end rest after e = (end_bounds end).0
first_end crlf crlf rest after e = omega arith
first_end crlf lf rest after e = absurd (let bad = head_same 13 10 _ _ e in thirteen bad)
  where
    thirteen : ◌≡◌ {A = ℕ} 13 10 → ⊥
    thirteen e = omega arith

token_begins_no_end : (name more after : List ℕ) (end : LineEnd) → 0 < length name → All (λ b. IsTrue (is_token_byte b)) name
    → name ++ more ≡ print_end end ++ after → ⊥
token_begins_no_end [] more after end full h e = omega arith
token_begins_no_end (n ∷ ns) more after lf full h e = token_no_lf n (All-head (λ b. IsTrue (is_token_byte b)) n ns h) (head_same n 10 _ _ e)
token_begins_no_end (n ∷ ns) more after crlf full h e = token_no_cr n (All-head (λ b. IsTrue (is_token_byte b)) n ns h) (head_same n 13 _ _ e)

-- the lines of a head from one of them on

section_first : (f : Field) (fs : List Field) (last : LineEnd) (rest : List ℕ)
    → print_section (f ∷ fs) last ++ rest ≡ field_text f ++ (print_end f.end ++ (print_section fs last ++ rest))
section_first f fs last rest = regroup (field_text f) (print_end f.end) (flat_map print_field fs) (print_end last) rest
  where
    regroup : (a b c d r : List ℕ) → (((a ++ b) ++ c) ++ d) ++ r ≡ a ++ (b ++ ((c ++ d) ++ r))
    regroup a b c d r = simp append_assoc

section_length : (f : Field) (fs : List Field) (last : LineEnd)
    → length (print_section (f ∷ fs) last) ≡ length (field_text f) + length (print_end f.end) + length (print_section fs last)
section_length f fs last =
    omega (
      arith,
      length-append (flat_map print_field (f ∷ fs)) (print_end last),
      length-append (print_field f) (flat_map print_field fs),
      length-append (field_text f) (print_end f.end),
      length-append (flat_map print_field fs) (print_end last),
    )

lines_end : (line : List ℕ) (end : LineEnd) (fields : List Field) (last : LineEnd) (rest before after : List ℕ) (empty : LineEnd)
    → NoLf line → All IsField fields
    → line ++ (print_end end ++ (print_section fields last ++ rest)) ≡ before ++ 10 ∷ (print_end empty ++ after)
    → length line + length (print_end end) + length (print_section fields last) ≤ length before + 1 + length (print_end empty)
lines_end line end [] last rest before after empty h fs e =
    ⊎_elim
    (λ p. let is = p.1 in omega (arith, (end_bounds last).1, (end_bounds empty).0))
    (λ p. let is = p.0 in omega (arith, first_end last empty rest after p.1))
    (aligned line end (print_end last ++ rest) before (print_end empty ++ after) h e)
lines_end line end (g ∷ gs) last rest before after empty h fs e =
    let field = All-head IsField g gs fs in
    let first = section_first g gs last rest in
    ⊎_elim
    (λ p. let is = p.1 in
    let more = lines_end (field_text g) g.end gs last rest p.0 after empty (field_no_lf g field) (All-tail IsField g gs fs) (sym first ∙ p.2) in
    omega (arith, more, section_length g gs last))
    (λ p. absurd (token_begins_no_end g.name _ after empty field.name.0 field.name.1 (sym (append_assoc g.name (58 ∷ g.raw) _) ∙ sym first ∙ p.1)))
    (aligned line end (print_section (g ∷ gs) last ++ rest) before (print_end empty ++ after) h e)

-- the empty lines before a head hold no text

abbrev pub HasText : List ℕ → Type 0
HasText bytes = (at : ℕ) × (at < length bytes) × (is_text (get_or bytes at 0) ≡ true)

text_later : (b : ℕ) (bs : List ℕ) → is_text b ≡ false → HasText (b ∷ bs) → HasText bs
text_later b bs blank (zero, within, text) = absurd (both_ways _ blank text)
text_later b bs blank (suc at, within, text) = (at, omega arith, text)

no_text : HasText [] → ⊥
no_text h = let lt = h.1 in omega arith

abbrev pub Skipped : ℕ → List ℕ → List ℕ → List ℕ → Type 0
Skipped blank before rest after = (front : List ℕ) × (length before ≡ blank + length front) × HasText front × (rest ≡ front ++ after)

same_text : (a b : ℕ) → a ≡ b → is_text a ≡ false → is_text b ≡ false
same_text a b e h = subst (λ x. is_text x ≡ false) e h

end_skipped : (end : LineEnd) (rest before after : List ℕ) → HasText before → print_end end ++ rest ≡ before ++ after
    → Skipped (length (print_end end)) before rest after
end_skipped end rest [] after h e = absurd (no_text h)
end_skipped lf rest (b ∷ bs) after h e =
    (bs, omega arith, text_later b bs (same_text 10 b (head_same 10 b _ _ e) refl) h, tail_same 10 b _ _ e)
end_skipped crlf rest (b ∷ []) after h e = absurd (no_text (text_later b [] (same_text 13 b (head_same 13 b _ _ e) refl) h))
end_skipped crlf rest (b ∷ c ∷ bs) after h e =
    let more = tail_same 13 b (10 ∷ rest) (c ∷ (bs ++ after)) e in
    let later = text_later b (c ∷ bs) (same_text 13 b (head_same 13 b _ _ e) refl) h in
    (bs, omega arith, text_later c bs (same_text 10 c (head_same 10 c _ _ more) refl) later, tail_same 10 c _ _ more)

blank_skipped : (blank : List LineEnd) (rest before after : List ℕ) → HasText before → print_blank blank ++ rest ≡ before ++ after
    → Skipped (length (print_blank blank)) before rest after
blank_skipped [] rest before after h e = (before, omega arith, h, e)
blank_skipped (end ∷ ends) rest before after h e =
    let one = end_skipped end (print_blank ends ++ rest) before after h (sym (append_assoc (print_end end) (print_blank ends) rest) ∙ e) in
    let others = blank_skipped ends rest one.0 after one.2 one.3 in
    let is = one.1 in
    let are = others.1 in
    (others.0, omega (arith, length-append (print_end end) (print_blank ends)), others.2, others.3)

-- the first line of a head

abbrev pub first_line : RequestHead → List ℕ
first_line h = h.method ++ 32 ∷ (h.target ++ 32 ∷ print_version h.minor)

space_no_lf : ◌≢◌ {A = ℕ} 32 10
space_no_lf e = absurd (omega arith)

no_lf_from : (bytes : List ℕ) → list_all (λ b. not (b == 10)) bytes ≡ true → NoLf bytes
no_lf_from [] h = All-nil (λ b. b ≢ 10)
no_lf_from (b ∷ bs) h =
    let parts = and_parts (not (b == 10)) (list_all (λ b. not (b == 10)) bs) h in
    All-cons (λ b. b ≢ 10) b bs (λ e. both_ways (b == 10) (not-true (b == 10) parts.0) (eq-eqb b 10 e)) (no_lf_from bs parts.1)

version_no_lf : (minor : ℕ) → minor ≤ 1 → NoLf (print_version minor)
version_no_lf minor small =
    All-append (λ b. b ≢ 10) (codes "HTTP/1.") ((48 + minor) ∷ []) fixed (All-cons (λ b. b ≢ 10) (48 + minor) [] (λ e. omega arith) (All-nil (λ b. b ≢ 10)))
  where
    fixed : NoLf (codes "HTTP/1.")
    fixed = no_lf_from (codes "HTTP/1.") refl

first_line_no_lf : (h : RequestHead) → IsRequestHead h → NoLf (first_line h)
first_line_no_lf h is =
    All-append (λ b. b ≢ 10) h.method (32 ∷ (h.target ++ 32 ∷ print_version h.minor)) (All-weaker _ _ token_no_lf h.method is.method.1)
    (All-cons (λ b. b ≢ 10) 32 (h.target ++ 32 ∷ print_version h.minor) space_no_lf
    (All-append (λ b. b ≢ 10) h.target (32 ∷ print_version h.minor) (All-weaker _ _ uri_no_lf h.target is.target.1)
    (All-cons (λ b. b ≢ 10) 32 (print_version h.minor) space_no_lf (version_no_lf h.minor is.minor))))

head_lines : (h : RequestHead) (rest : List ℕ)
    → print_request h ++ rest ≡ print_blank h.blank ++ (first_line h ++ (print_end h.line_end ++ (print_section h.fields h.last ++ rest)))
head_lines h rest =
    print_request-append h rest
    ∙ regroup (print_blank h.blank) h.method h.target (print_version h.minor) (print_end h.line_end ++ (print_section h.fields h.last ++ rest))
  where
    regroup : (a b c d r : List ℕ) → a ++ (b ++ 32 ∷ (c ++ 32 ∷ (d ++ r))) ≡ a ++ ((b ++ 32 ∷ (c ++ 32 ∷ d)) ++ r)
    regroup a b c d r = simp (append_assoc, cons-append)

-- a head that stands in front of bytes with an empty line ends there or before
pub head_ends : (h : RequestHead) (rest before after : List ℕ) (empty : LineEnd) → IsRequestHead h → HasText before
    → print_request h ++ rest ≡ before ++ 10 ∷ (print_end empty ++ after)
    → length (print_request h) ≤ length before + 1 + length (print_end empty)
head_ends h rest before after empty is text e =
    let lines = first_line h ++ (print_end h.line_end ++ (print_section h.fields h.last ++ rest)) in
    let skipped = blank_skipped h.blank lines before (10 ∷ (print_end empty ++ after)) text (sym (head_lines h rest) ∙ e) in
    let within = lines_end (first_line h) h.line_end h.fields h.last rest skipped.0 after empty (first_line_no_lf h is) is.fields skipped.3 in
    let before_is = skipped.1 in
    omega (
      arith,
      within,
      length-append (print_request h) rest,
      ap length (head_lines h rest),
      length-append (print_blank h.blank) lines,
      length-append (first_line h) (print_end h.line_end ++ (print_section h.fields h.last ++ rest)),
      length-append (print_end h.line_end) (print_section h.fields h.last ++ rest),
      length-append (print_section h.fields h.last) rest,
    )
