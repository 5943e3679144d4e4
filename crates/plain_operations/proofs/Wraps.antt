-- Results that wrap.
pub use Rattle.std.proofs.lemmas.Int.{wraps}
use Rattle.std.proofs.Common.{◌≡◌, ℕ, zero, suc, ◌+◌, ◌*◌, ◌/◌, ◌%◌, ◌^◌, ◌<◌, ◌≤◌, ℤ, pos, negsuc, ◌+ℤ◌, ◌-ℤ◌, ◌*ℤ◌, neg_ℤ, lit<, false, refl, sym, ap, ◌∙◌, arith}
use Rattle.std.specs.Ordering.{int_eq}
use Rattle.std.proofs.lemmas.Int.{ints, to_z-of_z, int_wrap-sub_right, wrapping_add_onto, wrapping_mul_is, wrapping_neg_is, fits_signed_from_abs}
use Rattle.std.proofs.Math.Nat.{div-le_self, mod-eq_of_lt, mod-lt}
use Rattle.std.specs.Prelude.{unsigned_abs, int_div, FitsSigned}
use Rattle.std.specs.Int.{Width, w32, int_wrap, int_wrapping_div, int_wrapping_neg, cast_signed, cast_unsigned}
use mir.Val.{bits, hbits}

-- a number that the bits of the type hold but for its sign
pub wrap_is : (w : Width) (z : ℤ) → unsigned_abs z < 2 ^ bits w → cast_signed w (cast_unsigned w z) ≡ int_wrap w z
unfolding int_wrap
wrap_is w (pos n) h = ap (cast_signed w) (sym (mod-eq_of_lt h))
wrap_is w (negsuc n) h = ap (cast_signed w) (let e : n % 2 ^ bits w ≡ n = mod-eq_of_lt (omega arith) in omega (arith, e))

abs_neg : (n : ℕ) → unsigned_abs (neg_ℤ (pos n)) ≡ n
abs_neg zero = refl
abs_neg (suc n) = refl

-- a quotient is no larger than what is divided
abs_div : (a b : ℤ) → unsigned_abs (int_div a b) ≤ unsigned_abs a
abs_div (pos a) (pos b) = div-le_self a b
abs_div (pos a) (negsuc b) = omega (arith, div-le_self a (suc b), abs_neg (a / suc b))
abs_div (negsuc a) (pos b) = omega (arith, div-le_self (suc a) b, abs_neg (suc a / b))
abs_div (negsuc a) (negsuc b) = div-le_self (suc a) (suc b)

-- the least number has no counterpart above 0
abs_fits : (w : Width) (a : ℤ) → FitsSigned w a → 2 ^ hbits w < 2 ^ bits w → unsigned_abs a < 2 ^ bits w
abs_fits w (pos a) f h = omega (arith, f.sfits, h)
abs_fits w (negsuc a) f h = omega (arith, f.sfits, h)

pub div_wraps : (w : Width) (a b : ℤ) → FitsSigned w a → 2 ^ hbits w < 2 ^ bits w → cast_signed w (cast_unsigned w (int_div a b)) ≡ int_wrap w (int_div a b)
div_wraps w a b f h = wrap_is w (int_div a b) (omega (arith, abs_div a b, abs_fits w a f h))

pub abs_wraps : (w : Width) (a : ℤ) → FitsSigned w a → 2 ^ hbits w < 2 ^ bits w → cast_signed w (unsigned_abs a) ≡ int_wrap w (pos (unsigned_abs a))
abs_wraps w a f h = wrap_is w (pos (unsigned_abs a)) (abs_fits w a f h)

-- what the code's quotient and absolute value are
pub div_is : (w : Width) (a b r : ℤ) → FitsSigned w a → FitsSigned w b → FitsSigned w r → 2 ^ hbits w < 2 ^ bits w
    → r ≡ int_wrapping_div w (cast_signed w (cast_unsigned w a)) (cast_signed w (cast_unsigned w b)) → cast_signed w (cast_unsigned w r) ≡ int_wrap w (int_div a b)
div_is w a b r fa fb fr h e =
    to_z-of_z w r fr ∙ e ∙ ap (λ x. int_wrapping_div w x (cast_signed w (cast_unsigned w b))) (to_z-of_z w a fa)
    ∙ ap (int_wrapping_div w a) (to_z-of_z w b fb) ∙ div_wraps w a b fa h

pub abs_is : (w : Width) (a r : ℤ) → FitsSigned w a → FitsSigned w r → 2 ^ hbits w < 2 ^ bits w
    → r ≡ cast_signed w (unsigned_abs (cast_signed w (cast_unsigned w a))) → cast_signed w (cast_unsigned w r) ≡ int_wrap w (pos (unsigned_abs a))
abs_is w a r fa fr h e = to_z-of_z w r fr ∙ e ∙ ap (λ x. cast_signed w (unsigned_abs x)) (to_z-of_z w a fa) ∙ abs_wraps w a fa h

pub not_zero : (b : ℤ) → (b ≡ pos 0 → ⊥) → int_eq b (pos 0) ≡ false
not_zero (pos zero) n = absurd (n refl)
not_zero (pos (suc k)) n = grind arith
not_zero (negsuc k) n = refl

pub neg_wraps : (w : Width) (x : ℤ) → int_wrap w (neg_ℤ (int_wrap w x)) ≡ int_wrap w (neg_ℤ x)
neg_wraps w x =
    let less : (y : ℤ) → neg_ℤ y ≡ pos 0 -ℤ y = λ y. omega (arith, ints) in
    ap (int_wrap w) (less (int_wrap w x)) ∙ int_wrap-sub_right w (pos 0) x ∙ ap (int_wrap w) (sym (less x))

-- a count in 32 bits
pub count_is : (n : ℕ) (r : ℤ) → FitsSigned w32 r → r ≡ cast_signed w32 (n % 4294967296) → cast_signed w32 (cast_unsigned w32 r) ≡ int_wrap w32 (pos n)
unfolding int_wrap
count_is n r f e = to_z-of_z w32 r f ∙ e

-- a number with a digit more
pub digit_is : (n r : ℤ) (d : ℕ) → FitsSigned w32 n → FitsSigned w32 r → r ≡ pos d
    → cast_signed w32 ((cast_unsigned w32 n * 10 % 4294967296 + cast_unsigned w32 r) % 4294967296) ≡ int_wrap w32 (int_wrap w32 (n *ℤ pos 10) +ℤ pos d)
digit_is n r d fn fr e =
    wrapping_add_onto w32 (cast_unsigned w32 n * 10 % 4294967296) r (mod-lt (cast_unsigned w32 n * 10) (lit< tt)) fr
    ∙ ap (λ x. int_wrap w32 (x +ℤ r)) (wrapping_mul_is w32 n (pos 10) fn (fits_signed_from_abs w32 (pos 10) (lit< tt)))
    ∙ ap (λ x. int_wrap w32 (int_wrap w32 (n *ℤ pos 10) +ℤ x)) e

-- the negative of a number that has wrapped already
pub neg_is : (k l r : ℤ) → FitsSigned w32 l → FitsSigned w32 r → l ≡ int_wrap w32 k
    → r ≡ int_wrapping_neg w32 (cast_signed w32 (cast_unsigned w32 l)) → cast_signed w32 (cast_unsigned w32 r) ≡ int_wrap w32 (neg_ℤ k)
neg_is k l r fl fr el e =
    to_z-of_z w32 r fr ∙ e ∙ ap (int_wrapping_neg w32) (to_z-of_z w32 l fl) ∙ wrapping_neg_is w32 l fl ∙ ap (λ x. int_wrap w32 (neg_ℤ x)) el ∙ neg_wraps w32 k
