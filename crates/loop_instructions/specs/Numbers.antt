-- The numbers that a `for` works with.
use Rattle.std.specs.Prelude.{ℤ, ◌+ℤ◌, Option, Some, None}
use Rattle.std.specs.Int.{w32, w64, int_wrap}
use Rattle.heap_meaning.specs.declared.plain.Plain.{Plain}
use Rattle.heap_meaning.specs.declared.plain.Plain.TheVariants as p
use Rattle.heap_meaning.specs.Values.{Value}
use Rattle.heap_meaning.specs.Reading.{plain_of}
use Rattle.loop_instructions.specs.declared.numbers.Number.{Number}
use Rattle.loop_instructions.specs.declared.numbers.Number.TheVariants.{Small, Big}
use Rattle.loop_instructions.specs.declared.numbers.Range.{Range}

-- the number that a value is
abbrev pub number_in : Option Plain → Option Number
number_in (Some (p.Small n)) = Some (Small n)
number_in (Some (p.Big n)) = Some (Big n)
number_in _ = None

abbrev pub number_at : Option Value → Option Number
number_at None = None
number_at (Some v) = number_in (plain_of v)

-- the value that a number is
abbrev pub plain_number : Number → Plain
plain_number (Small n) = p.Small n
plain_number (Big n) = p.Big n

abbrev pub integer : Number → ℤ
integer (Small n) = n
integer (Big n) = n

abbrev pub range_in : Option Number → Option Number → Option Number → Option Range
range_in (Some start) (Some end) (Some step) = Some (record { start = start; end = end; step = step })
range_in _ _ _ = None

-- in 32 bits, or in 64 where one of them is a LongInteger
abbrev pub sum : Number → Number → Number
sum (Small a) (Small b) = Small (int_wrap w32 (a +ℤ b))
sum (Small a) (Big b) = Big (int_wrap w64 (a +ℤ b))
sum (Big a) (Small b) = Big (int_wrap w64 (a +ℤ b))
sum (Big a) (Big b) = Big (int_wrap w64 (a +ℤ b))

abbrev pub sum_in : Option Number → Option Number → Option Number
sum_in (Some a) (Some b) = Some (sum a b)
sum_in _ _ = None
