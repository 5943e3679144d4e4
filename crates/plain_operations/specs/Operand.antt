-- Values as operators, and functions of numbers and texts, see them.
use Rattle.std.specs.Prelude.{ℕ, ℤ, Bool, List}
use Rattle.plain_operations.specs.declared.operand.Operand as r
use Rattle.plain_operations.specs.declared.operand.Operand.TheVariants as v

pub data Operand : Type 0 where
  Invalid : Operand
  Boolean : (b : Bool) → Operand
  Integer : (n : ℤ) → Operand
  LongInteger : (n : ℤ) → Operand
  Words : (bytes : List ℕ) → Operand
  Function : Operand
  Other : Operand

abbrev pub operand_of : r.Operand → Operand
operand_of v.Invalid = Invalid
operand_of (v.Boolean b) = Boolean b
operand_of (v.Integer n) = Integer n
operand_of (v.LongInteger n) = LongInteger n
operand_of (v.Words text) = Words text.now
operand_of v.Function = Function
operand_of v.Other = Other
