-- Operands, with the values of the heap.
use Rattle.std.specs.Prelude.{ℕ, List, map}
use Rattle.heap_meaning.specs.Values.{Value, filler}
use Rattle.frame_stack.specs.declared.each.Each.{Each}
use Rattle.frame_stack.specs.declared.each.Each.TheVariants as e
use Rattle.frame_stack.specs.declared.operands.Operand as r
use Rattle.frame_stack.specs.declared.operands.Operand.TheVariants as o

-- a value, or what a `for each` goes over: the items of an array from a place on, or keys
pub data Operand : Type 0 where
  Holds : (value : Value) → Operand
  Items : (array : Value) → (next : ℕ) → Operand
  Keys : (keys : List (List ℕ)) → Operand

-- the value of an operand; what a `for each` goes over has none
abbrev pub value_of : Operand → Value
value_of (Holds v) = v
value_of _ = filler

abbrev pub values : List Operand → List Value
values operands = map value_of operands

-- the operands that the program's ones are
abbrev pub each_of : Each → Operand
each_of (e.Items array next) = Items array next
each_of (e.Keys keys) = Keys keys

abbrev pub operand_of : r.Operand → Operand
operand_of (o.Value v) = Holds v
operand_of (o.Each each) = each_of each
