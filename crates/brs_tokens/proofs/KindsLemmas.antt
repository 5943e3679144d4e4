-- What spells a piece of a kind is a piece of that kind.
use Rattle.std.proofs.Common.{◌≡◌, ◌≢◌, ℕ, ◌⊎◌, inl, inr, Bool, true, false, cond, List, [], ◌∷◌, ◌++◌, length, take, drop, Option, Some, refl, sym, ap, ◌∙◌, subst, append-nil, arith}
use Rattle.std.specs.Prelude.{◌||◌, ◌==◌, not, codes, slice_index}
use Rattle.std.specs.List.{prefix_len, list_all, list_any}
use Rattle.std.specs.Str.{bytes_eq}
use Rattle.std.proofs.Math.Seq.{take-append_seam, drop-append_seam}
use Rattle.std.proofs.lemmas.Bool.{false≢true, and_parts, and_from}
use Rattle.std.proofs.lemmas.Bool.Decides.{nat_tests, eqb_tells}
use Rattle.std.proofs.lemmas.Slice.Eq.{bytes_eq-Decides}
use Rattle.chan_values.specs.Folded.{folded, folded_byte}
use Rattle.brs_tokens.specs.Classes.{is_among, is_blank, stays_in_line, is_digit, is_hex_digit, begins_name, is_name_byte}
use Rattle.brs_tokens.specs.Pieces.{piece_kind, where_, is_empty, is_digits, is_hex_end, is_text_end, is_word, is_keyword, is_sign, word_kind}
use Rattle.brs_tokens.specs.Kinds.{AreAll, AreSome, IsName, IsRem, IsComment, IsNumber, quotes_doubled, IsText, Spells}
use Rattle.brs_tokens.proofs.LongestPiece.{IsOther, IsUnnamed, IsUndigited, kind-blank, kind-newline, kind-comment, kind-word, kind-decimal, kind-hex, kind-text, kind-sign}
use Rattle.brs_tokens.proofs.LongestText.{end-plain}
use Rattle.brs_tokens.specs.declared.piece.PieceKind.{PieceKind}
use Rattle.brs_tokens.specs.declared.piece.PieceKind.TheVariants.{Blank, Comment, Token}
use Rattle.brs_tokens.specs.declared.token.TokenKind.TheVariants.{Newline, Name, Keyword, Number, Text, Sign}

-- a run that ends where its class does
pub run-over : (p : ℕ → Bool) (run behind : List ℕ) → AreAll p run → p (slice_index behind 0) ≡ false → prefix_len p (run ++ behind) ≡ length run
run-over p [] [] all ends = refl
run-over p [] (b ∷ behind) all ends = rw ends refl
run-over p (b ∷ run) behind all ends =
    let parts = and_parts (p b) (list_all p run) all in
    rw (parts.0, run-over p run behind parts.1 ends) (omega arith)

-- names

abbrev kind_past : List ℕ → List ℕ → Option PieceKind
kind_past name more =
    cond (is_word (codes "rem") name) (where_ (list_all stays_in_line more) Comment) (where_ (is_empty more) (Token (cond (is_keyword name) Keyword Name)))

word_kind-past : (name behind : List ℕ) → AreAll is_name_byte name → is_name_byte (slice_index behind 0) ≡ false → word_kind (name ++ behind) ≡ kind_past name behind
unfolding word_kind
word_kind-past name behind all ends =
    let len : prefix_len is_name_byte (name ++ behind) ≡ length name = run-over is_name_byte name behind all ends in
    ap (λ n. kind_past (take n (name ++ behind)) (drop n (name ++ behind))) len
    ∙ ap (λ t. kind_past t (drop (length name) (name ++ behind))) (take-append_seam name behind)
    ∙ ap (λ t. kind_past name t) (drop-append_seam name behind)

begins-other : (b : ℕ) → begins_name b ≡ true → IsOther b
begins-other b h = record { blank = grind (arith, nat_tests); newline = grind (arith, nat_tests); apostrophe = grind (arith, nat_tests) }

begins-name_byte : (b : ℕ) → begins_name b ≡ true → is_name_byte b ≡ true
begins-name_byte b h = rw h refl

-- a name and what is behind it
kind-past : (first : ℕ) (more behind : List ℕ) → begins_name first ≡ true → AreAll is_name_byte more → is_name_byte (slice_index behind 0) ≡ false
    → piece_kind (first ∷ (more ++ behind)) ≡ kind_past (first ∷ more) behind
kind-past first more behind begins all ends =
    kind-word first (more ++ behind) (begins-other first begins) begins
    ∙ word_kind-past (first ∷ more) behind (and_from (is_name_byte first) (list_all is_name_byte more) (begins-name_byte first begins) all) ends

kind-name : (bytes : List ℕ) → IsName bytes → piece_kind bytes ≡ kind_past bytes []
kind-name bytes name =
    let all : bytes ≡ name.0 ∷ (name.1 ++ []) = name.2 ∙ ap (λ t. name.0 ∷ t) (sym (append-nil name.1)) in
    ap piece_kind all ∙ kind-past name.0 name.1 [] name.3 name.4 refl ∙ ap (λ t. kind_past t []) (sym name.2)

plain_name : (bytes : List ℕ) → is_keyword bytes ≡ false → is_word (codes "rem") bytes ≡ false → kind_past bytes [] ≡ Some (Token Name)
plain_name bytes word rem = rw (rem, word) refl

-- the word `rem` is no keyword
rem-folded : (name : List ℕ) → IsRem name → folded name ≡ codes "rem"
rem-folded name rem = sym ((bytes_eq-Decides (codes "rem") (folded name)).0 rem)

rem-unlisted : (name : List ℕ) → IsRem name → is_keyword name ≡ false
unfolding is_keyword
rem-unlisted name rem = rw (rem-folded name rem) refl

keyword-plain : (name : List ℕ) → is_keyword name ≡ true → is_word (codes "rem") name ≡ false
keyword-plain name word =
    elim (is_word (codes "rem") name) as (λ t. (is_word (codes "rem") name ≡ t) → t ≡ false) [
      | true ↦ λ h. absurd (false≢true (sym (rem-unlisted name h) ∙ word))
      | false ↦ λ h. refl
    ] refl

keyword_name : (bytes : List ℕ) → is_keyword bytes ≡ true → kind_past bytes [] ≡ Some (Token Keyword)
keyword_name bytes word = rw (keyword-plain bytes word, word) refl

-- comments

folded-begins : (b : ℕ) → begins_name (folded_byte b) ≡ begins_name b
folded-begins b = grind (arith, nat_tests)

folded-name_byte : (b : ℕ) → is_name_byte (folded_byte b) ≡ is_name_byte b
folded-name_byte b = grind (arith, nat_tests)

folded-all : (name : List ℕ) → list_all is_name_byte (folded name) ≡ list_all is_name_byte name
folded-all [] = refl
folded-all (b ∷ name) = rw (folded-name_byte b, folded-all name) refl

pub rem-name : (name : List ℕ) → IsRem name → IsName name
rem-name [] rem = absurd (false≢true rem)
rem-name (b ∷ name) rem =
    let same : folded_byte b ∷ folded name ≡ codes "rem" = rem-folded (b ∷ name) rem in
    let first : folded_byte b ≡ 114 = cc in
    let all : list_all is_name_byte (b ∷ name) ≡ true = sym (folded-all (b ∷ name)) ∙ ap (list_all is_name_byte) same in
    (b, name, refl, sym (folded-begins b) ∙ ap begins_name first, (and_parts (is_name_byte b) (list_all is_name_byte name) all).1)

rem_comment : (mark line : List ℕ) → IsRem mark → AreAll stays_in_line line → kind_past mark line ≡ Some Comment
rem_comment mark line rem all = rw (rem, all) refl

comment-kind : (bytes : List ℕ) → IsComment bytes → piece_kind bytes ≡ Some Comment
comment-kind bytes c = elim c.begins [
  | inl sign ↦ ap piece_kind (c.bytes_are ∙ ap (λ m. m ++ c.line) sign) ∙ kind-comment c.line ∙ ap (λ t. where_ t Comment) c.in_line
  | inr rem ↦
      let name : IsName c.mark = rem-name c.mark rem.0 in
      ap piece_kind (c.bytes_are ∙ ap (λ m. m ++ c.line) name.2) ∙ kind-past name.0 name.1 c.line name.3 name.4 rem.1
      ∙ ap (λ m. kind_past m c.line) (sym name.2) ∙ rem_comment c.mark c.line rem.0 c.in_line
]

-- numbers

digits-passed : (p : ℕ → Bool) (digits end : List ℕ) → AreAll p digits → (end ≡ []) ⊎ (end ≡ 38 ∷ []) → p 38 ≡ false → is_digits p (digits ++ end) ≡ true
digits-passed p [] end all (inl none) apart = ap (is_digits p) none
digits-passed p [] end all (inr mark) apart = ap (is_digits p) mark ∙ rw apart refl
digits-passed p (d ∷ digits) end all ends apart =
    let parts = and_parts (p d) (list_all p digits) all in
    rw parts.0 (digits-passed p digits end parts.1 ends apart)

digit-unnamed : (d : ℕ) → is_digit d ≡ true → IsUnnamed d
digit-unnamed d h = record {
  other = record { blank = grind (arith, nat_tests); newline = grind (arith, nat_tests); apostrophe = grind (arith, nat_tests) };
  name = grind (arith, nat_tests);
}

decimal-kind : (digits end : List ℕ) → AreSome is_digit digits → (end ≡ []) ⊎ (end ≡ 38 ∷ []) → piece_kind (digits ++ end) ≡ Some (Token Number)
decimal-kind [] end some ends = absurd (some.0 refl)
decimal-kind (d ∷ digits) end some ends =
    let parts = and_parts (is_digit d) (list_all is_digit digits) some.1 in
    kind-decimal d (digits ++ end) (digit-unnamed d parts.0) parts.0
    ∙ ap (λ t. where_ t (Token Number)) (digits-passed is_digit digits end parts.1 ends refl)

hex-passed : (h : ℕ) (digits end : List ℕ) → (h ≡ 104) ⊎ (h ≡ 72) → AreSome is_hex_digit digits → (end ≡ []) ⊎ (end ≡ 38 ∷ []) → is_hex_end (h ∷ (digits ++ end)) ≡ true
hex-passed h [] end is some ends = absurd (some.0 refl)
hex-passed h (d ∷ digits) end is some ends =
    let parts = and_parts (is_hex_digit d) (list_all is_hex_digit digits) some.1 in
    let more : is_digits is_hex_digit (digits ++ end) ≡ true = digits-passed is_hex_digit digits end parts.1 ends refl in
    let letter : (h == 104 || h == 72) ≡ true = elim is [ inl small ↦ rw small refl | inr large ↦ rw large refl ] in
    rw (letter, parts.0, more) refl

number-kind : (bytes : List ℕ) → IsNumber bytes → piece_kind bytes ≡ Some (Token Number)
number-kind bytes n = elim n.written [
  | inl decimal ↦ ap piece_kind n.bytes_are ∙ decimal-kind n.digits n.end decimal n.ends
  | inr hex ↦
      ap piece_kind (n.bytes_are ∙ ap (λ t. t ++ n.end) hex.2) ∙ kind-hex (hex.0 ∷ (hex.1 ++ n.end))
      ∙ ap (λ t. where_ t (Token Number)) (hex-passed hex.0 hex.1 n.end hex.3 hex.4 n.ends)
]

-- texts

text_end-plain : (b : ℕ) (bs : List ℕ) → b ≢ 34 → b ≢ 10 → is_text_end bs ≡ true → is_text_end (b ∷ bs) ≡ true
text_end-plain b [] q l e = absurd (false≢true e)
text_end-plain b (c ∷ bs) q l e = end-plain b c bs q l ∙ e

stays-apart : (b : ℕ) → stays_in_line b ≡ true → b ≢ 10
stays-apart b h = grind (arith, nat_tests)

doubled-passed : (inner : List ℕ) → AreAll stays_in_line inner → is_text_end (quotes_doubled inner ++ 34 ∷ []) ≡ true
doubled-passed [] all = refl
doubled-passed (b ∷ inner) all =
    let parts = and_parts (stays_in_line b) (list_all stays_in_line inner) all in
    let more = doubled-passed inner parts.1 in
    elim (eqb_tells b 34) [
      | inl is ↦ rw is.1 more
      | inr other ↦ rw other.0 (text_end-plain b (quotes_doubled inner ++ 34 ∷ []) other.1 (stays-apart b parts.0) more)
    ]

text-kind : (bytes : List ℕ) → IsText bytes → piece_kind bytes ≡ Some (Token Text)
text-kind bytes t =
    ap piece_kind t.1 ∙ kind-text (quotes_doubled t.0 ++ 34 ∷ []) ∙ ap (λ s. where_ s (Token Text)) (doubled-passed t.0 t.2)

-- signs

-- what no sign begins with
abbrev no_sign : ℕ → Bool
no_sign b = is_blank b || b == 10 || b == 39 || begins_name b || is_digit b || b == 38 || b == 34

pub among-passed : (p : ℕ → Bool) (bytes : List ℕ) (b : ℕ) → list_all p bytes ≡ true → is_among bytes b ≡ true → p b ≡ true
among-passed p [] b all among = absurd (false≢true among)
among-passed p (x ∷ bytes) b all among =
    let parts = and_parts (p x) (list_all p bytes) all in
    elim (eqb_tells x b) [
      | inl is ↦ subst (λ y. p y ≡ true) is.1 parts.0
      | inr other ↦ let among' = rw other.0 at among in among-passed p bytes b parts.1 among'
    ]

pub listed-passed : (p : List ℕ → Bool) (signs : List (List ℕ)) (bytes : List ℕ) → list_all p signs ≡ true → list_any (λ sign. bytes_eq sign bytes) signs ≡ true → p bytes ≡ true
listed-passed p [] bytes all any = absurd (false≢true any)
listed-passed p (x ∷ signs) bytes all any =
    let parts = and_parts (p x) (list_all p signs) all in
    elim (bytes_eq x bytes) as (λ t. (bytes_eq x bytes ≡ t) → p bytes ≡ true) [
      | true ↦ λ h. subst (λ y. p y ≡ true) ((bytes_eq-Decides x bytes).0 h) parts.0
      | false ↦ λ h. let any' = rw h at any in listed-passed p signs bytes parts.1 any'
    ] refl

abbrev pub signs_of_two : List (List ℕ)
signs_of_two =
    codes "<>" ∷ codes "<=" ∷ codes ">=" ∷ codes "<<" ∷ codes ">>" ∷ codes "+=" ∷ codes "-=" ∷ codes "*=" ∷ codes "\\=" ∷ codes "++" ∷ codes "--" ∷ []

not-true : (t : Bool) → not t ≡ true → t ≡ false
not-true true e = absurd (false≢true e)
not-true false e = refl

sign-first : (b : ℕ) (bs : List ℕ) → is_sign (b ∷ bs) ≡ true → no_sign b ≡ false
unfolding is_sign
sign-first b [] h = not-true (no_sign b) (among-passed (λ x. not (no_sign x)) (codes "+-*\\=<>()[]{},:;.?") b refl h)
sign-first b (c ∷ []) h = not-true (no_sign b) (listed-passed (λ bytes. not (no_sign (slice_index bytes 0))) signs_of_two (b ∷ c ∷ []) refl h)
sign-first b (c ∷ d ∷ bs) h = absurd (false≢true h)

sign-undigited : (b : ℕ) → no_sign b ≡ false → IsUndigited b
sign-undigited b h = record {
  unnamed = record {
    other = record { blank = grind (arith, nat_tests); newline = grind (arith, nat_tests); apostrophe = grind (arith, nat_tests) };
    name = grind (arith, nat_tests);
  };
  digit = grind (arith, nat_tests);
}

sign-kind : (bytes : List ℕ) → is_sign bytes ≡ true → piece_kind bytes ≡ Some (Token Sign)
unfolding is_sign
sign-kind [] h = absurd (false≢true h)
sign-kind (b ∷ bs) h =
    let none = sign-first b bs h in
    kind-sign b bs (sign-undigited b none) (grind (arith, nat_tests)) (grind (arith, nat_tests)) ∙ ap (λ t. where_ t (Token Sign)) h

pub spells-kind : (kind : PieceKind) (bytes : List ℕ) → Spells kind bytes → piece_kind bytes ≡ Some kind
spells-kind Blank bytes s = ap piece_kind s.1 ∙ kind-blank s.0 [] s.2
spells-kind Comment bytes s = comment-kind bytes s
spells-kind (Token Newline) bytes s = ap piece_kind s ∙ kind-newline []
spells-kind (Token Name) bytes s = kind-name bytes s.0 ∙ plain_name bytes s.1 s.2
spells-kind (Token Keyword) bytes s = kind-name bytes s.0 ∙ keyword_name bytes s.1
spells-kind (Token Number) bytes s = number-kind bytes s
spells-kind (Token Text) bytes s = text-kind bytes s
spells-kind (Token Sign) bytes s = sign-kind bytes s
