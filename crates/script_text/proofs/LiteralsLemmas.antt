-- Escapes and characters.
use Rattle.std.proofs.Common.{◌≡◌, ◌≢◌, ◌↔◌, ℕ, ◌+◌, ◌<◌, ◌≤◌, true, false, not, List, [], ◌∷◌, ◌++◌, length, take, drop, get_or, Option, MatchOption, encode_utf8, Bor, nat_eq, sym, refl, ap, ◌∙◌, subst, arith, append_assoc, append-nil, ltb, ◌||◌, ⊎_elim, length-append, All, slice_set, add-one, drop-cons}
use Rattle.std.specs.Char.{IsScalar, is_ascii_alphanumeric}
use Rattle.std.specs.Cmp.Lexicographic.{pointwise}
use Rattle.std.proofs.Math.Utf8.{encode, scalar_cases}
use Rattle.std.proofs.lemmas.Bool.{cond-true, cond-false, cond_both, cases_Bool, agree_below_at, lt-ltb, ltb-true, le-ltb, cases_lt}
use Rattle.std.proofs.lemmas.List.{append_cancel_left, take_more_set}
use Rattle.std.proofs.lemmas.List.Elements.{All-nil, All-cons}
use Rattle.std.proofs.lemmas.Str.{encode_same, length-encode, len_utf8_bounds}
use Rattle.percent_encoding.proofs.PercentLemmas.{IsByte, round_trip, percent_encode-nil, percent_encode_escaped, percent_encode_kept}
use Rattle.percent_encoding.proofs.StandardFacts.{non_alphanumeric}
use Rattle.std.proofs.lemmas.Bool.Decides.{Decides-eqb, nat_tests}
use Rattle.std.proofs.lemmas.Slice.Eq.{strip_prefix_is}
use Rattle.percent_encoding.specs.AsciiSet.{should_percent_encode, contains}
use Rattle.percent_encoding.specs.Percent.{percent_encode, percent_encode_byte, percent_decode}
use Rattle.percent_encoding.specs.declared.ascii_set.TheConstants.{NON_ALPHANUMERIC}
use Rattle.script_text.specs.Literals.{escaped, escaped_byte}

-- what `strip_prefix` says of a prefix that is q
pub strips : (s p q : List ℕ) (r : Option (Bor (List ℕ))) → p ≡ q
    → MatchOption r (pointwise nat_eq (take (length p) s) p ≡ false) (λ x. (pointwise nat_eq (take (length p) s) p ≡ true) × (x.now ≡ drop (length p) s) × (length x.now + length p ≡ length s))
    → MatchOption r ((rest : List ℕ) → s ≢ q ++ rest) (λ x. s ≡ q ++ x.now)
strips s p q r same h =
    subst (λ q. MatchOption r ((rest : List ℕ) → s ≢ q ++ rest) (λ x. s ≡ q ++ x.now)) same (strip_prefix_is Decides-eqb s p r h)

pub escaped_plain : (b : ℕ) → is_ascii_alphanumeric b ≡ true → b ∷ [] ≡ escaped_byte b
escaped_plain b plain = sym (cond-true _ (b ∷ []) (percent_encode_byte b) plain)

pub escaped_other : (b : ℕ) → is_ascii_alphanumeric b ≡ false → percent_encode_byte b ≡ escaped_byte b
escaped_other b other = sym (cond-false _ (b ∷ []) (percent_encode_byte b) other)

-- one character

pub only_one : (bs rest : List ℕ) (c d : ℕ) → bs ≡ encode_utf8 c → bs ≡ encode_utf8 d ++ rest → (d ≡ c) × (length rest ≡ 0)
only_one bs rest c d is begins =
    let same = encode_same d c rest [] (sym begins ∙ is ∙ sym (append-nil (encode c))) in
    (same.0, ap length same.1)

pub not_empty : (bs : List ℕ) (c : ℕ) → bs ≡ encode_utf8 c → length bs ≡ 0 → ⊥
not_empty bs c is none = omega (arith, ap length is, length-encode c, (len_utf8_bounds c).0)

pub begins_full : (bs rest : List ℕ) (c : ℕ) → bs ≡ encode_utf8 c ++ rest → length bs ≡ 0 → ⊥
begins_full bs rest c is none =
    omega (arith, ap length is, length-append (encode c) rest, length-encode c, (len_utf8_bounds c).0)

pub not_longer : (front rest bs : List ℕ) (b c : ℕ) → length front ≡ 4 → front ++ b ∷ rest ≡ bs → bs ≡ encode_utf8 c → ⊥
not_longer front rest bs b c four joined is =
    omega (arith, length-append front (b ∷ rest), ap length (joined ∙ is), length-encode c, (len_utf8_bounds c).1)

pub one_more : (bytes left more all : List ℕ) (len b : ℕ) → len < length bytes → take len bytes ++ left ≡ all → left ≡ b ∷ more
    → take (len + 1) (slice_set bytes len b) ++ more ≡ all
one_more bytes left more all len b within so_far next =
    ap (λ front. front ++ more) (take_more_set bytes len b within) ∙ append_assoc (take len bytes) (b ∷ []) more
    ∙ ap (λ rest. take len bytes ++ rest) (sym next) ∙ so_far

-- escapes, byte by byte

pub escaped_at : (bytes : List ℕ) (i : ℕ) → i < length bytes → escaped (drop i bytes) ≡ escaped_byte (get_or bytes i 0) ++ escaped (drop (i + 1) bytes)
escaped_at bytes i within = let front : drop i bytes ≡ get_or bytes i 0 ∷ drop (i + 1) bytes = rw add-one (drop-cons bytes i 0 within) in ap escaped front

abbrev pub Same : List ℕ → List ℕ → List ℕ → List ℕ → Type 0
Same text bytes rest left = (text ≡ escaped bytes) ↔ (rest ≡ escaped left)

pub same_more : (text bytes rest more : List ℕ) (i : ℕ) → i < length bytes → Same text bytes rest (drop i bytes)
    → rest ≡ escaped_byte (get_or bytes i 0) ++ more → Same text bytes more (drop (i + 1) bytes)
same_more text bytes rest more i within so_far begins =
    let at = escaped_at bytes i within in (
      λ is. append_cancel_left (escaped_byte (get_or bytes i 0)) more (escaped (drop (i + 1) bytes)) (sym begins ∙ so_far.0 is ∙ at),
      λ is. so_far.1 (begins ∙ ap (λ m. escaped_byte (get_or bytes i 0) ++ m) is ∙ sym at),
    )

-- what is escaped decodes to itself

encode_bytes : (c : ℕ) → IsScalar c → All IsByte (encode c)
unfolding encode
encode_bytes c scalar =
    let low : c < 1114112 = ⊎_elim (λ h. omega arith) (λ h. h.1) (scalar_cases c scalar) in
    cond_both (ltb c 128) _ _ (All IsByte)
    (λ e. let small = ltb-true c 128 e in bytes_1 c (omega arith))
    (λ _. cond_both (ltb c 2048) _ _ (All IsByte)
    (λ e. let small = ltb-true c 2048 e in bytes_2 _ _ (omega arith) (omega arith))
    (λ _. cond_both (ltb c 65536) _ _ (All IsByte)
    (λ e. let small = ltb-true c 65536 e in bytes_3 _ _ _ (omega arith) (omega arith) (omega arith))
    (λ _. bytes_4 _ _ _ _ (omega arith) (omega arith) (omega arith) (omega arith))))
  where
    bytes_1 : (a : ℕ) → a < 256 → All IsByte (a ∷ [])
    bytes_1 a ha = All-cons IsByte a [] ha (All-nil IsByte)

    bytes_2 : (a b : ℕ) → a < 256 → b < 256 → All IsByte (a ∷ b ∷ [])
    bytes_2 a b ha hb = All-cons IsByte a (b ∷ []) ha (bytes_1 b hb)

    bytes_3 : (a b d : ℕ) → a < 256 → b < 256 → d < 256 → All IsByte (a ∷ b ∷ d ∷ [])
    bytes_3 a b d ha hb hd = All-cons IsByte a (b ∷ d ∷ []) ha (bytes_2 b d hb hd)

    bytes_4 : (a b d e : ℕ) → a < 256 → b < 256 → d < 256 → e < 256 → All IsByte (a ∷ b ∷ d ∷ e ∷ [])
    bytes_4 a b d e ha hb hd he = All-cons IsByte a (b ∷ d ∷ e ∷ []) ha (bytes_3 b d e hb hd he)

-- the set has just the bytes that are escaped
escapes_byte : (b : ℕ) → should_percent_encode NON_ALPHANUMERIC b ≡ not (is_ascii_alphanumeric b)
unfolding should_percent_encode
escapes_byte b =
    ⊎_elim
    (λ h. ap (λ t. not t || contains NON_ALPHANUMERIC b) (lt-ltb b 128 h)
    ∙ agree_below_at (contains NON_ALPHANUMERIC) (λ b. not (is_ascii_alphanumeric b)) 128 b non_alphanumeric h)
    (λ h. ap (λ t. not t || contains NON_ALPHANUMERIC b) (le-ltb b 128 h) ∙ sym (ap not (beyond_ascii b h)))
    (cases_lt b 128)
  where
    beyond_ascii : (b : ℕ) → 128 ≤ b → is_ascii_alphanumeric b ≡ false
    beyond_ascii b h = grind (arith, nat_tests)

pub percent_encode_escapes : (bs : List ℕ) → percent_encode NON_ALPHANUMERIC bs ≡ escaped bs
percent_encode_escapes [] = percent_encode-nil NON_ALPHANUMERIC
percent_encode_escapes (b ∷ bs) =
    let rest = percent_encode_escapes bs in
    ⊎_elim
    (λ e. percent_encode_kept NON_ALPHANUMERIC b bs (escapes_byte b ∙ ap not e) ∙ ap (λ m. b ∷ m) rest ∙ ap (λ front. front ++ escaped bs) (escaped_plain b e))
    (λ e. percent_encode_escaped NON_ALPHANUMERIC b bs (escapes_byte b ∙ ap not e) ∙ ap (λ m. percent_encode_byte b ++ m) rest
    ∙ ap (λ front. front ++ escaped bs) (escaped_other b e))
    (cases_Bool (is_ascii_alphanumeric b))

pub decode-escaped : (c : ℕ) → IsScalar c → percent_decode (escaped (encode_utf8 c)) ≡ encode_utf8 c
decode-escaped c scalar =
    ap percent_decode (sym (percent_encode_escapes (encode c))) ∙ round_trip NON_ALPHANUMERIC (encode c) refl (encode_bytes c scalar)
