-- What a number is worth, and which are too large.
-- Source: BrightScript Language Reference, "Literals (Constants)".
use Rattle.std.specs.Prelude.{ℕ, ◌-◌, ◌^◌, Bool, not, ◌&&◌, ◌==◌, nat_lt, nat_le, if◌then◌else◌, List, length, drop, slice_index, Option, Some, None}
use Rattle.std.specs.List.{take_while}
use Rattle.std.specs.Int.{w32, w64, cast_signed}
use Rattle.std.specs.Str.Parse.{digits_value}
use Rattle.brs_tokens.specs.Classes.{ampersand, is_digit, is_hex_digit}
use Rattle.brs_tokens.specs.declared.number.NumberValue.{NumberValue}
use Rattle.brs_tokens.specs.declared.number.NumberValue.TheVariants.{Integer, LongInteger}

-- the number is written with `&h`, which no decimal number begins with
abbrev pub is_hexadecimal : List ℕ → Bool
is_hexadecimal number = slice_index number 0 == ampersand

-- the digits without what stands round them
abbrev pub digits_of : List ℕ → List ℕ
digits_of number = if is_hexadecimal number then take_while is_hex_digit (drop 2 number) else take_while is_digit number

-- the number without regard to its width
abbrev pub magnitude : List ℕ → ℕ
magnitude number = digits_value (if is_hexadecimal number then 16 else 10) (digits_of number)

-- A decimal number goes up to 9,223,372,036,854,775,807. A hexadecimal one has at most 16 digits after leading zeros.
abbrev pub is_too_large : List ℕ → Bool
is_too_large number = nat_le (if is_hexadecimal number then 2 ^ 64 else 2 ^ 63) (magnitude number)

-- the number ends with `&`
abbrev pub is_marked : List ℕ → Bool
is_marked number = slice_index number (length number - 1) == ampersand

-- Without the final `&` a decimal number up to 2,147,483,647 is an Integer, and so is a hexadecimal one with at most 8 digits
-- after leading zeros. Any other number is a LongInteger.
abbrev pub is_integer : List ℕ → Bool
is_integer number = not (is_marked number) && nat_lt (magnitude number) (if is_hexadecimal number then 2 ^ 32 else 2 ^ 31)

-- What the number is worth, `None` where it is too large. A hexadecimal number gives the 32 or 64 bits.
abbrev pub number_value : List ℕ → Option NumberValue
number_value number =
    if is_too_large number then None
    else if is_integer number then Some (Integer (cast_signed w32 (magnitude number)))
    else Some (LongInteger (cast_signed w64 (magnitude number)))
