-- Bytes below 128, and decimal digits among them.
use Rattle.std.proofs.Common.{◌≡◌, ℕ, zero, suc, ◌<◌, ◌^◌, Bool, true, false, ◌&&◌, ltb, cond, List, [], ◌∷◌, length, get_or, Some, None, Result, Ok, Err, pos, ℤ, refl, sym, ap, ◌∙◌, arith, rules}
use Rattle.std.specs.List.{list_all}
use Rattle.std.specs.Char.{is_ascii_digit}
use Rattle.std.specs.Str.{all_ascii_digits, IsAscii, IsNotAscii}
use Rattle.std.specs.Option.{option_map}
use Rattle.std.specs.Result.{result_ok}
use Rattle.std.specs.Str.Parse.{ParsesSigned}
use Rattle.std.proofs.lemmas.Bool.Decides.{nat_tests}
use Rattle.std.proofs.lemmas.Str.Parse.{IsNumeralModel, numerals_by_fold, tells_all_ascii_digits, parse_signed_digits}
use Rattle.first_form.specs.FirstForm.{all_ascii, decimal_after, number_value}
use mir.Syntax.{w32}

ltb_below : (a b : ℕ) → a < b → ltb a b ≡ true
ltb_below a b h = grind (arith, nat_tests)

below_ltb : (a b : ℕ) → ltb a b ≡ true → a < b
below_ltb a b h = grind (arith, nat_tests)

both : (a b : Bool) → a ≡ true → b ≡ true → (a && b) ≡ true
both true b e f = f
both false b e f = absurd (cc)

parts : (a b : Bool) → (a && b) ≡ true → (a ≡ true) × (b ≡ true)
parts true b e = (refl, e)
parts false b e = absurd (cc)

pub all_ascii-from_IsAscii : (bs : List ℕ) → IsAscii bs → all_ascii bs ≡ true
all_ascii-from_IsAscii [] h = refl
all_ascii-from_IsAscii (b ∷ bs) h = both _ _ (ltb_below b 128 (h 0)) (all_ascii-from_IsAscii bs (λ i. h (suc i)))

pub IsAscii-from_all_ascii : (bs : List ℕ) → all_ascii bs ≡ true → IsAscii bs
IsAscii-from_all_ascii [] e i = lit_below
  where
    lit_below : get_or [] i 0 < 128
    lit_below = search rules
IsAscii-from_all_ascii (b ∷ bs) e zero = below_ltb b 128 (parts (ltb b 128) (all_ascii bs) e).0
IsAscii-from_all_ascii (b ∷ bs) e (suc i) = IsAscii-from_all_ascii bs (parts (ltb b 128) (all_ascii bs) e).1 i

pub all_ascii-from_IsNotAscii : (bs : List ℕ) → IsNotAscii bs → all_ascii bs ≡ false
all_ascii-from_IsNotAscii bs (i, h) = go (all_ascii bs) refl
  where
    go : (b : Bool) → all_ascii bs ≡ b → b ≡ false
    go true e = absurd (omega (arith, IsAscii-from_all_ascii bs e i, h))
    go false e = refl

digit_below : (b : ℕ) → is_ascii_digit b ≡ true → ltb b 128 ≡ true
digit_below b e = grind (arith, nat_tests)

pub all_ascii-from_digits : (bs : List ℕ) → all_ascii_digits bs ≡ true → all_ascii bs ≡ true
all_ascii-from_digits [] e = refl
all_ascii-from_digits (b ∷ bs) e =
    let x = parts (is_ascii_digit b) (all_ascii_digits bs) e in
    both _ _ (digit_below b x.0) (all_ascii-from_digits bs x.1)

pub list_all-digits : (bs : List ℕ) → list_all is_ascii_digit bs ≡ all_ascii_digits bs
list_all-digits [] = refl
list_all-digits (b ∷ bs) = ap (λ t. is_ascii_digit b && t) (list_all-digits bs)

decimal_model : IsNumeralModel (λ ds. all_ascii_digits ds ≡ true) (decimal_after 0)
decimal_model = numerals_by_fold _ tells_all_ascii_digits decimal_after (search rules)

-- a number is read exactly where it fits
fits : (bs : List ℕ) → all_ascii_digits bs ≡ true → 0 < length bs → decimal_after 0 bs < 2 ^ 31 → number_value bs ≡ Some (decimal_after 0 bs)
fits bs digits some small =
    let test = both (all_ascii_digits bs) _ digits (both (ltb 0 (length bs)) (ltb (decimal_after 0 bs) (2 ^ 31)) (ltb_below 0 (length bs) some) (ltb_below (decimal_after 0 bs) (2 ^ 31) small)) in
    ap (λ b. cond b (Some (decimal_after 0 bs)) None) test

number_from_ok : (E : Type 0) (bs : List ℕ) (n : ℤ) → ParsesSigned {E = E} w32 10 bs (Ok n) → all_ascii_digits bs ≡ true → Some n ≡ option_map pos (number_value bs)
number_from_ok E bs n h digits =
    let x = parse_signed_digits decimal_model {E = E} w32 bs (Ok n) h digits in
    ap Some x.1 ∙ ap (option_map pos) (sym (fits bs digits x.0.0 x.0.1))

no_value : (bs : List ℕ) (b : Bool) → (b ≡ true → ⊥) → cond b (Some (decimal_after 0 bs)) None ≡ None
no_value bs true h = absurd (h refl)
no_value bs false h = refl

number_from_err : (E : Type 0) (bs : List ℕ) (e : E) → ParsesSigned {E = E} w32 10 bs (Err e) → all_ascii_digits bs ≡ true → None ≡ option_map pos (number_value bs)
number_from_err E bs e h digits =
    let x = parse_signed_digits decimal_model {E = E} w32 bs (Err e) h digits in
    let none = no_value bs _ (λ t.
    let y = parts (all_ascii_digits bs) _ t in
    let z = parts (ltb 0 (length bs)) (ltb (decimal_after 0 bs) (2 ^ 31)) y.1 in
    x (below_ltb 0 (length bs) z.0, below_ltb (decimal_after 0 bs) (2 ^ 31) z.1)) in
    ap (option_map pos) (sym none)

-- what `parse` answers at digits
pub number_value-from_parse : (E : Type 0) (bs : List ℕ) (r : Result ℤ E) → ParsesSigned w32 10 bs r → all_ascii_digits bs ≡ true → result_ok r ≡ option_map pos (number_value bs)
number_value-from_parse E bs (Ok n) h digits = number_from_ok E bs n h digits
number_value-from_parse E bs (Err e) h digits = number_from_err E bs e h digits
