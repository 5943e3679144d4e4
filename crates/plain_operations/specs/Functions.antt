-- Functions of numbers and texts: one row for each shape of arguments that it takes.
use Rattle.std.specs.Prelude.{ℕ, pos, unsigned_abs, Bool, ◌||◌, ◌==◌, List, length, if◌then◌else◌}
use Rattle.std.specs.Int.{w32, w64, int_wrap}
use Rattle.std.specs.Str.{str_to_ascii_lowercase, str_to_ascii_uppercase}
use Rattle.chan_values.specs.declared.error_code.ErrorCode.TheVariants.{E2, E6}
use Rattle.plain_operations.specs.Operand.{Operand}
use Rattle.plain_operations.specs.Outcome.{Outcome, Integer, LongInteger, Words, Raises}
use Rattle.plain_operations.specs.Shape.{Shape, Narrow, Wide, Text, TextNumber, TextNumbers, NumberTexts, shape_in}
use Rattle.plain_operations.specs.Texts.{character_count, first_character, character_text, left_part, right_part, rest_from, middle_part, place_in, number_in, spaced_decimal}
use Rattle.plain_operations.specs.declared.function.PlainFunction.{PlainFunction}
use Rattle.plain_operations.specs.declared.function.PlainFunction.TheVariants.{Abs, Asc, Chr, Len, Left, Right, Mid, Instr, LCase, UCase, Str, StrI, StrToI}

-- how many arguments a function takes
abbrev pub takes : PlainFunction → ℕ → Bool
takes Left count = count == 2
takes Right count = count == 2
takes Mid count = count == 2 || count == 3
takes Instr count = count == 3
takes _ count = count == 1

-- a count or a place as an Integer
abbrev pub count_outcome : ℕ → Outcome
count_outcome n = Integer (int_wrap w32 (pos n))

abbrev pub abs_row : Shape → Outcome
abs_row (Narrow n) = Integer (int_wrap w32 (pos (unsigned_abs n)))
abs_row (Wide n) = LongInteger (int_wrap w64 (pos (unsigned_abs n)))
abs_row _ = Raises E2

abbrev pub asc_row : Shape → Outcome
asc_row (Text s) = Integer (pos (first_character s))
asc_row _ = Raises E2

abbrev pub chr_row : Shape → Outcome
chr_row (Narrow n) = Words (character_text n)
chr_row (Wide n) = Words (character_text n)
chr_row _ = Raises E2

abbrev pub len_row : Shape → Outcome
len_row (Text s) = count_outcome (character_count s)
len_row _ = Raises E2

abbrev pub left_row : Shape → Outcome
left_row (TextNumber s n) = Words (left_part s n)
left_row _ = Raises E2

abbrev pub right_row : Shape → Outcome
right_row (TextNumber s n) = Words (right_part s n)
right_row _ = Raises E2

abbrev pub mid_row : Shape → Outcome
mid_row (TextNumber s p) = Words (rest_from s p)
mid_row (TextNumbers s p n) = Words (middle_part s p n)
mid_row _ = Raises E2

abbrev pub instr_row : Shape → Outcome
instr_row (NumberTexts p s t) = count_outcome (place_in p s t)
instr_row _ = Raises E2

abbrev pub lcase_row : Shape → Outcome
lcase_row (Text s) = Words (str_to_ascii_lowercase s)
lcase_row _ = Raises E2

abbrev pub ucase_row : Shape → Outcome
ucase_row (Text s) = Words (str_to_ascii_uppercase s)
ucase_row _ = Raises E2

abbrev pub str_row : Shape → Outcome
str_row (Narrow n) = Words (spaced_decimal n)
str_row (Wide n) = Words (spaced_decimal n)
str_row _ = Raises E2

abbrev pub str_to_i_row : Shape → Outcome
str_to_i_row (Text s) = Integer (number_in s)
str_to_i_row _ = Raises E2

-- what a function gives of a number of arguments that it takes
abbrev pub taken_row : PlainFunction → Shape → Outcome
taken_row Abs = abs_row
taken_row Asc = asc_row
taken_row Chr = chr_row
taken_row Len = len_row
taken_row Left = left_row
taken_row Right = right_row
taken_row Mid = mid_row
taken_row Instr = instr_row
taken_row LCase = lcase_row
taken_row UCase = ucase_row
taken_row Str = str_row
taken_row StrI = str_row
taken_row StrToI = str_to_i_row

-- what a function gives; a wrong number of arguments comes before wrong kinds
abbrev pub function_row : PlainFunction → (count : ℕ) → Shape → Outcome
function_row f count shape = if takes f count then taken_row f shape else Raises E6

abbrev pub function_result : PlainFunction → List Operand → Outcome
function_result f arguments = function_row f (length arguments) (shape_in arguments)
