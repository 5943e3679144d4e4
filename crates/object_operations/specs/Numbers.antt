-- Numbers of a heap's values.
use Rattle.std.specs.Prelude.{ℕ, ℤ, pos, negsuc, Option, Some, None}
use Rattle.heap_meaning.specs.declared.plain.Plain.{Plain}
use Rattle.object_operations.specs.Answer.{number_of_plain}

abbrev pub number_of : Option Plain → Option ℤ
number_of (Some plain) = number_of_plain plain
number_of None = None

-- a number as a place, which is none below 0
abbrev pub place_at : ℤ → Option ℕ
place_at (pos i) = Some i
place_at (negsuc i) = None
