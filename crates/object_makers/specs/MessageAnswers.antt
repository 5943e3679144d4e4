-- What it means that an operation was applied to a message.
use Rattle.std.specs.Prelude.{◌≡◌, ℕ, List, ◌∷◌, map, Some, slice_get}
use Rattle.chan_values.specs.declared.message.Message as m
use Rattle.heap_meaning.specs.Values.{Value, Reference}
use Rattle.heap_meaning.specs.Store.{MessageObject, Store}
use Rattle.heap_meaning.specs.Stands.{Naming, Outside, meaning, Stands}
use Rattle.heap_meaning.specs.Heap.{Heap}
use Rattle.object_operations.specs.Receivers.{MessageRow}
use Rattle.object_operations.specs.Applies.{Answers, AreOut}
use Rattle.object_operations.specs.declared.applied.Applied.{Applied}

-- whatever the store that the heap stands for, where the value is this message of it, the answer is that of the row
pub record AppliesToMessage (old new : Heap) (message : Value) (arguments : List Value) (r : Applied) (row : MessageRow) : Type 0 where
  pub answers : (name : Naming) (store : Store) (before : Outside) (n : ℕ) (m : m.Message)
      → Stands name old.cells store before → AreOut (message ∷ arguments) before
      → meaning name message ≡ Reference n → slice_get store n ≡ Some (MessageObject m)
      → Answers name new store before r (row m (map (meaning name) arguments) store)
