-- Operators: one row for each pair of operands that it takes.
use Rattle.std.specs.Prelude.{ℕ, ℤ, pos, negsuc, ◌+ℤ◌, ◌-ℤ◌, ◌*ℤ◌, neg_ℤ, ◌/◌, ◌^◌, Bool, not, ◌&&◌, ◌||◌, true, false, nat_lt, nat_le, int_lt, int_div, int_rem, List, ◌++◌, length, if◌then◌else◌}
use Rattle.std.specs.Int.{Width, w32, w64, int_wrap, int_shl, int_bit_and, int_bit_or, int_bit_not, cast_signed, cast_unsigned}
use Rattle.std.specs.Ordering.{int_eq, is_lt, nat_cmp}
use Rattle.std.specs.Cmp.Lexicographic.{slice_cmp}
use Rattle.std.specs.Str.{bytes_eq, chars}
use mir.Val.{bits}
use Rattle.chan_values.specs.declared.error_code.ErrorCode.TheVariants.{E2, E3, E12}
use Rattle.plain_operations.specs.Operand as v
use Rattle.plain_operations.specs.Outcome.{Outcome, Boolean, Integer, LongInteger, Words, Raises}
use Rattle.plain_operations.specs.Pair.{Pair, Narrow, Wide, Texts, Truths, BothInvalid, OneInvalid, pair_in}
use Rattle.plain_operations.specs.Shift as s
use Rattle.plain_operations.specs.Shift.{Shift, shift_in}
use Rattle.plain_operations.specs.Limits.{longest_text}
use Rattle.plain_operations.specs.declared.operator.Operator.{Operator}
use Rattle.plain_operations.specs.declared.operator.Operator.TheVariants.{Add, Subtract, Multiply, Divide, Remainder, ShiftLeft, ShiftRight, And, Or, Less, Greater, LessOrEqual, GreaterOrEqual, Equal, NotEqual}
use Rattle.plain_operations.specs.declared.operator.UnaryOperator.{UnaryOperator}
use Rattle.plain_operations.specs.declared.operator.UnaryOperator.TheVariants.{Negate, Not}

-- a text after another, where both together are not too long
abbrev pub joined : List ℕ → List ℕ → Outcome
joined s t = if nat_le (length (chars (s ++ t))) longest_text then Words (s ++ t) else Raises E12

abbrev pub add_row : Pair → Outcome
add_row (Narrow a b) = Integer (int_wrap w32 (a +ℤ b))
add_row (Wide a b) = LongInteger (int_wrap w64 (a +ℤ b))
add_row (Texts s t) = joined s t
add_row _ = Raises E2

abbrev pub subtract_row : Pair → Outcome
subtract_row (Narrow a b) = Integer (int_wrap w32 (a -ℤ b))
subtract_row (Wide a b) = LongInteger (int_wrap w64 (a -ℤ b))
subtract_row _ = Raises E2

abbrev pub multiply_row : Pair → Outcome
multiply_row (Narrow a b) = Integer (int_wrap w32 (a *ℤ b))
multiply_row (Wide a b) = LongInteger (int_wrap w64 (a *ℤ b))
multiply_row _ = Raises E2

-- the quotient is rounded toward zero, and the remainder has the sign of the left side
abbrev pub divide_row : Pair → Outcome
divide_row (Narrow a b) = if int_eq b (pos 0) then Raises E3 else Integer (int_wrap w32 (int_div a b))
divide_row (Wide a b) = if int_eq b (pos 0) then Raises E3 else LongInteger (int_wrap w64 (int_div a b))
divide_row _ = Raises E2

abbrev pub remainder_row : Pair → Outcome
remainder_row (Narrow a b) = if int_eq b (pos 0) then Raises E3 else Integer (int_rem a b)
remainder_row (Wide a b) = if int_eq b (pos 0) then Raises E3 else LongInteger (int_rem a b)
remainder_row _ = Raises E2

-- bits that come in are 0, and no bit is left where the amount is below 0 or not below the width
abbrev pub shifted_left : Width → (n amount : ℤ) → ℤ
shifted_left w n (pos k) = if nat_lt k (bits w) then int_shl w n k else pos 0
shifted_left w n (negsuc k) = pos 0

abbrev pub shifted_right : Width → (n amount : ℤ) → ℤ
shifted_right w n (pos k) = if nat_lt k (bits w) then cast_signed w (cast_unsigned w n / 2 ^ k) else pos 0
shifted_right w n (negsuc k) = pos 0

abbrev pub shift_left_row : Shift → Outcome
shift_left_row (s.Narrow n amount) = Integer (shifted_left w32 n amount)
shift_left_row (s.Wide n amount) = LongInteger (shifted_left w64 n amount)
shift_left_row _ = Raises E2

abbrev pub shift_right_row : Shift → Outcome
shift_right_row (s.Narrow n amount) = Integer (shifted_right w32 n amount)
shift_right_row (s.Wide n amount) = LongInteger (shifted_right w64 n amount)
shift_right_row _ = Raises E2

abbrev pub and_row : Pair → Outcome
and_row (Truths a b) = Boolean (a && b)
and_row (Narrow a b) = Integer (int_bit_and w32 a b)
and_row (Wide a b) = LongInteger (int_bit_and w64 a b)
and_row _ = Raises E2

abbrev pub or_row : Pair → Outcome
or_row (Truths a b) = Boolean (a || b)
or_row (Narrow a b) = Integer (int_bit_or w32 a b)
or_row (Wide a b) = LongInteger (int_bit_or w64 a b)
or_row _ = Raises E2

-- texts are compared by their bytes
abbrev pub text_less : List ℕ → List ℕ → Bool
text_less s t = is_lt (slice_cmp nat_cmp s t)

abbrev pub less_row : Pair → Outcome
less_row (Narrow a b) = Boolean (int_lt a b)
less_row (Wide a b) = Boolean (int_lt a b)
less_row (Texts s t) = Boolean (text_less s t)
less_row _ = Raises E2

abbrev pub greater_row : Pair → Outcome
greater_row (Narrow a b) = Boolean (int_lt b a)
greater_row (Wide a b) = Boolean (int_lt b a)
greater_row (Texts s t) = Boolean (text_less t s)
greater_row _ = Raises E2

abbrev pub less_or_equal_row : Pair → Outcome
less_or_equal_row (Narrow a b) = Boolean (not (int_lt b a))
less_or_equal_row (Wide a b) = Boolean (not (int_lt b a))
less_or_equal_row (Texts s t) = Boolean (not (text_less t s))
less_or_equal_row _ = Raises E2

abbrev pub greater_or_equal_row : Pair → Outcome
greater_or_equal_row (Narrow a b) = Boolean (not (int_lt a b))
greater_or_equal_row (Wide a b) = Boolean (not (int_lt a b))
greater_or_equal_row (Texts s t) = Boolean (not (text_less s t))
greater_or_equal_row _ = Raises E2

abbrev pub same_truth : Bool → Bool → Bool
same_truth true b = b
same_truth false b = not b

-- beside `invalid` a value of any kind may stand, and `invalid` alone is equal to it
abbrev pub equal_row : Pair → Outcome
equal_row (Narrow a b) = Boolean (int_eq a b)
equal_row (Wide a b) = Boolean (int_eq a b)
equal_row (Texts s t) = Boolean (bytes_eq s t)
equal_row (Truths a b) = Boolean (same_truth a b)
equal_row BothInvalid = Boolean true
equal_row OneInvalid = Boolean false
equal_row _ = Raises E2

abbrev pub not_equal_row : Pair → Outcome
not_equal_row (Narrow a b) = Boolean (not (int_eq a b))
not_equal_row (Wide a b) = Boolean (not (int_eq a b))
not_equal_row (Texts s t) = Boolean (not (bytes_eq s t))
not_equal_row (Truths a b) = Boolean (not (same_truth a b))
not_equal_row BothInvalid = Boolean false
not_equal_row OneInvalid = Boolean true
not_equal_row _ = Raises E2

-- what an operator gives of its left and its right operand
abbrev pub operated : Operator → (left right : v.Operand) → Outcome
operated Add a b = add_row (pair_in a b)
operated Subtract a b = subtract_row (pair_in a b)
operated Multiply a b = multiply_row (pair_in a b)
operated Divide a b = divide_row (pair_in a b)
operated Remainder a b = remainder_row (pair_in a b)
operated ShiftLeft a b = shift_left_row (shift_in a b)
operated ShiftRight a b = shift_right_row (shift_in a b)
operated And a b = and_row (pair_in a b)
operated Or a b = or_row (pair_in a b)
operated Less a b = less_row (pair_in a b)
operated Greater a b = greater_row (pair_in a b)
operated LessOrEqual a b = less_or_equal_row (pair_in a b)
operated GreaterOrEqual a b = greater_or_equal_row (pair_in a b)
operated Equal a b = equal_row (pair_in a b)
operated NotEqual a b = not_equal_row (pair_in a b)

abbrev pub negate_row : v.Operand → Outcome
negate_row (v.Integer n) = Integer (int_wrap w32 (neg_ℤ n))
negate_row (v.LongInteger n) = LongInteger (int_wrap w64 (neg_ℤ n))
negate_row _ = Raises E2

abbrev pub not_row : v.Operand → Outcome
not_row (v.Boolean b) = Boolean (not b)
not_row (v.Integer n) = Integer (int_bit_not w32 n)
not_row (v.LongInteger n) = LongInteger (int_bit_not w64 n)
not_row _ = Raises E2

-- what an operator before its one operand gives
abbrev pub operated_alone : UnaryOperator → v.Operand → Outcome
operated_alone Negate = negate_row
operated_alone Not = not_row
