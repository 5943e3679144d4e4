-- What digits are worth, digit by digit.
use Rattle.std.proofs.Common.{◌≡◌, ℕ, ◌+◌, ◌*◌, ◌<◌, ◌≤◌, List, [], ◌∷◌, length, get_or, drop, add-one, drop-cons, ap, arith}
use Rattle.std.proofs.Math.Nat.{mul-le-mul_left}
use Rattle.std.proofs.lemmas.List.{drop_all}
use Rattle.std.specs.Char.{digit_value}
use Rattle.std.specs.Str.Parse.{digits_value_after}

pub digits-grow : (radix n : ℕ) (ds : List ℕ) → 1 ≤ radix → n ≤ digits_value_after radix n ds
digits-grow radix n [] low = omega arith
digits-grow radix n (c ∷ cs) low =
    let more = digits-grow radix (n * radix + digit_value c) cs low in
    omega (arith, more, mul-le-mul_left n low)

pub digits_at : (radix n : ℕ) (ds : List ℕ) (i : ℕ) → i < length ds
    → digits_value_after radix n (drop i ds) ≡ digits_value_after radix (n * radix + digit_value (get_or ds i 0)) (drop (i + 1) ds)
digits_at radix n ds i within =
    let front : drop i ds ≡ get_or ds i 0 ∷ drop (i + 1) ds = rw add-one (drop-cons ds i 0 within) in
    ap (λ t. digits_value_after radix n t) front

-- what the digits read so far make is no more than what all make
pub digits_at-grow : (radix n : ℕ) (ds : List ℕ) (i : ℕ) → 1 ≤ radix → i < length ds
    → n * radix + digit_value (get_or ds i 0) ≤ digits_value_after radix n (drop i ds)
digits_at-grow radix n ds i low within =
    omega (arith, digits_at radix n ds i within, digits-grow radix (n * radix + digit_value (get_or ds i 0)) (drop (i + 1) ds) low)

pub digits_end : (radix n : ℕ) (ds : List ℕ) (i : ℕ) → length ds ≤ i → digits_value_after radix n (drop i ds) ≡ n
digits_end radix n ds i past = ap (λ t. digits_value_after radix n t) (drop_all i ds past)
