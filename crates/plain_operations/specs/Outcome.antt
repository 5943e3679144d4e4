-- What an operator, and a function of numbers and texts, gives.
use Rattle.std.specs.Prelude.{ℕ, ℤ, Bool, List}
use Rattle.chan_values.specs.declared.error_code.ErrorCode.{ErrorCode}
use Rattle.plain_operations.specs.declared.outcome.Outcome as r
use Rattle.plain_operations.specs.declared.outcome.Outcome.TheVariants as v

-- a value, or an error
pub data Outcome : Type 0 where
  Invalid : Outcome
  Boolean : (b : Bool) → Outcome
  Integer : (n : ℤ) → Outcome
  LongInteger : (n : ℤ) → Outcome
  Words : (bytes : List ℕ) → Outcome
  Raises : (error : ErrorCode) → Outcome

abbrev pub outcome_of : r.Outcome → Outcome
outcome_of v.Invalid = Invalid
outcome_of (v.Boolean b) = Boolean b
outcome_of (v.Integer n) = Integer n
outcome_of (v.LongInteger n) = LongInteger n
outcome_of (v.Words text) = Words text
outcome_of (v.Raised error) = Raises error
