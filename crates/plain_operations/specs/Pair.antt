-- The two operands of an operator.
use Rattle.std.specs.Prelude.{ℕ, ℤ, Bool, List}
use Rattle.plain_operations.specs.Operand.{Operand, Invalid, Boolean, Integer, LongInteger, Words}
use Rattle.plain_operations.specs.declared.pair.Pair as r
use Rattle.plain_operations.specs.declared.pair.Pair.TheVariants as v

-- an Integer beside a LongInteger is widened
pub data Pair : Type 0 where
  Narrow : ℤ → ℤ → Pair
  Wide : ℤ → ℤ → Pair
  Texts : List ℕ → List ℕ → Pair
  Truths : Bool → Bool → Pair
  BothInvalid : Pair
  OneInvalid : Pair
  Mixed : Pair

abbrev pub pair_in : Operand → Operand → Pair
pair_in (Integer a) (Integer b) = Narrow a b
pair_in (Integer a) (LongInteger b) = Wide a b
pair_in (LongInteger a) (Integer b) = Wide a b
pair_in (LongInteger a) (LongInteger b) = Wide a b
pair_in (Words s) (Words t) = Texts s t
pair_in (Boolean a) (Boolean b) = Truths a b
pair_in Invalid Invalid = BothInvalid
pair_in Invalid _ = OneInvalid
pair_in _ Invalid = OneInvalid
pair_in _ _ = Mixed

abbrev pub pair_of : r.Pair → Pair
pair_of (v.Narrow a b) = Narrow a b
pair_of (v.Wide a b) = Wide a b
pair_of (v.Texts s t) = Texts s.now t.now
pair_of (v.Truths a b) = Truths a b
pair_of v.BothInvalid = BothInvalid
pair_of v.OneInvalid = OneInvalid
pair_of v.Mixed = Mixed
