-- The two operands of a shift.
use Rattle.std.specs.Prelude.{ℤ}
use Rattle.plain_operations.specs.Operand.{Operand, Integer, LongInteger}
use Rattle.plain_operations.specs.declared.pair.Shift as r
use Rattle.plain_operations.specs.declared.pair.Shift.TheVariants as v

-- a number to be shifted, whose width stays, and an amount
pub data Shift : Type 0 where
  Narrow : (n amount : ℤ) → Shift
  Wide : (n amount : ℤ) → Shift
  NoShift : Shift

abbrev pub shift_in : Operand → Operand → Shift
shift_in (Integer n) (Integer amount) = Narrow n amount
shift_in (Integer n) (LongInteger amount) = Narrow n amount
shift_in (LongInteger n) (Integer amount) = Wide n amount
shift_in (LongInteger n) (LongInteger amount) = Wide n amount
shift_in _ _ = NoShift

abbrev pub shift_of : r.Shift → Shift
shift_of (v.Narrow n amount) = Narrow n amount
shift_of (v.Wide n amount) = Wide n amount
shift_of v.NoShift = NoShift
