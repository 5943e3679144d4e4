-- Which left operands decide an operator alone, and which values are conditions.
use Rattle.std.specs.Prelude.{Bool, true, false}
use Rattle.std.specs.Prelude.{Option, Some, None}
use Rattle.plain_operations.specs.Operand.{Operand, Boolean}

-- the right operand isn't evaluated where the left one is false under `and`, or true under `or`: the left one is the result
abbrev pub decides_and : Operand → Bool
decides_and (Boolean false) = true
decides_and _ = false

abbrev pub decides_or : Operand → Bool
decides_or (Boolean true) = true
decides_or _ = false

-- a condition is a Boolean, and any other value raises E2
abbrev pub condition : Operand → Option Bool
condition (Boolean b) = Some b
condition _ = None
