-- Bytes that are UTF-8, and the characters that numbers stand for.
use Rattle.std.proofs.Common.{◌≡◌, ℕ, ◌+◌, ◌*◌, ◌≤◌, inl, inr, Bool, true, false, List, [], ◌∷◌, length, slice_index, Option, Some, None, cond, refl, ap, arith}
use Rattle.std.specs.Str.{IsUtf8, is_utf8}
use Rattle.std.proofs.lemmas.Str.{IsUtf8-from_is_utf8, is_utf8-from_IsUtf8}
use Rattle.std.proofs.Math.Utf8.{scalar, scalar_cases}
use Rattle.std.proofs.Math.Nat.{mul-le-mul_left}
use Rattle.xml_pieces.specs.Written.{digit, numeral}
use Rattle.xml_pieces.specs.Reading.{text_at, char_of}

pub is_text : (bs : List ℕ) → IsUtf8 bs → is_utf8 bs ≡ true
is_text bs h = is_utf8-from_IsUtf8 bs h

pub no_text : (bs : List ℕ) → (IsUtf8 bs → ⊥) → is_utf8 bs ≡ false
no_text bs h = at (is_utf8 bs) refl
  where
    at : (v : Bool) → is_utf8 bs ≡ v → v ≡ false
    at true e = absurd (h (IsUtf8-from_is_utf8 bs e))
    at false e = refl

pub text_there : (bs : List ℕ) → is_utf8 bs ≡ true → text_at bs ≡ Some bs
text_there bs e = ap (λ v. cond v (Some bs) None) e

pub text_absent : (bs : List ℕ) → is_utf8 bs ≡ false → text_at bs ≡ None
text_absent bs e = ap (λ v. cond v (Some bs) None) e

-- further digits make no number less
pub numeral_grows : (radix n : ℕ) (ds : List ℕ) → 1 ≤ radix → n ≤ numeral radix n ds
numeral_grows radix n [] some = omega arith
numeral_grows radix n (d ∷ ds) some =
    let more = numeral_grows radix (n * radix + digit d) ds some in
    omega (arith, more, mul-le-mul_left n some)

no_char : (c : ℕ) → 0x11_0000 ≤ c → scalar c ≡ false
no_char c big = at (scalar c) refl
  where
    at : (v : Bool) → scalar c ≡ v → v ≡ false
    at true e = elim (scalar_cases c e) [ inl low ↦ absurd (omega arith) | inr high ↦ absurd (omega arith) ]
    at false e = refl

abbrev pub as_char : ℕ → Option ℕ
as_char n = cond (scalar n) (Some n) None

pub too_large : (n : ℕ) → 0x11_0000 ≤ n → as_char n ≡ None
too_large n big = ap (λ v. cond v (Some n) None) (no_char n big)

pub char_there : (n : ℕ) → scalar n ≡ true → as_char n ≡ Some n
char_there n e = ap (λ v. cond v (Some n) None) e

pub char_absent : (n : ℕ) → (scalar n ≡ true → ⊥) → as_char n ≡ None
char_absent n h = at (scalar n) refl
  where
    at : (v : Bool) → scalar n ≡ v → cond v (Some n) None ≡ None
    at true e = absurd (h e)
    at false e = refl

-- a number that has grown past the last character goes on to none
pub too_far : (radix code : ℕ) (bs ds : List ℕ) → 1 ≤ radix → 1 ≤ length bs → numeral radix code bs ≡ numeral radix 0 ds → 0x11_0000 ≤ code * radix + digit (slice_index bs 0)
    → char_of radix ds ≡ None
unfolding char_of
too_far radix code [] ds some fits e big = absurd (omega arith)
too_far radix code (b ∷ bs) ds some fits e big =
    let more = numeral_grows radix (code * radix + digit b) bs some in
    too_large (numeral radix 0 ds) (omega (arith, more, e, big))
