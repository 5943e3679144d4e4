-- Methods of texts, numbers and Booleans.
use Rattle.std.specs.Prelude.{ℕ, Bool, true, false, ◌==◌, if◌then◌else◌}
use Rattle.std.specs.Fmt.{signed_decimal}
use Rattle.chan_values.specs.declared.error_code.ErrorCode.{ErrorCode}
use Rattle.chan_values.specs.declared.error_code.ErrorCode.TheVariants.{E4, E6, E7}
use Rattle.plain_operations.specs.Operand as v
use Rattle.plain_operations.specs.Operand.{Operand}
use Rattle.plain_operations.specs.Outcome.{Outcome, Integer, Words, Raises}
use Rattle.plain_operations.specs.Texts.{character_count, number_in, trimmed, truth_text}
use Rattle.plain_operations.specs.Functions.{count_outcome}
use Rattle.plain_operations.specs.declared.method.PlainMethod.{PlainMethod}
use Rattle.plain_operations.specs.declared.method.PlainMethod.TheVariants.{ToStr, ToInt, Len, Trim}

-- the text that a value prints, without the leading space of a number
abbrev pub to_str_row : Operand → Outcome
to_str_row (v.Boolean b) = Words (truth_text b)
to_str_row (v.Integer n) = Words (signed_decimal n)
to_str_row (v.LongInteger n) = Words (signed_decimal n)
to_str_row (v.Words s) = Words s
to_str_row _ = Raises E4

abbrev pub to_int_row : Operand → Outcome
to_int_row (v.Words s) = Integer (number_in s)
to_int_row _ = Raises E4

abbrev pub len_row : Operand → Outcome
len_row (v.Words s) = count_outcome (character_count s)
len_row _ = Raises E4

abbrev pub trim_row : Operand → Outcome
trim_row (v.Words s) = Words (trimmed s)
trim_row _ = Raises E4

-- what a method gives of the value that it is called on
abbrev pub method_value : PlainMethod → Operand → Outcome
method_value ToStr = to_str_row
method_value ToInt = to_int_row
method_value Len = len_row
method_value Trim = trim_row

-- which values have a method
abbrev pub has_method : PlainMethod → Operand → Bool
has_method m (v.Words s) = true
has_method ToStr (v.Boolean b) = true
has_method ToStr (v.Integer n) = true
has_method ToStr (v.LongInteger n) = true
has_method _ _ = false

-- the error of a member that a value does not have
abbrev pub member_error : Operand → ErrorCode
member_error v.Invalid = E7
member_error _ = E4

-- what a call of a method with a number of arguments gives
abbrev pub method_row : PlainMethod → (receiver : Operand) → (count : ℕ) → Outcome
method_row m receiver count = if has_method m receiver then (if count == 0 then method_value m receiver else Raises E6) else Raises (member_error receiver)
