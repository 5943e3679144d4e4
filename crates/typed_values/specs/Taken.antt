-- Values of a heap as declared types take them.
use Rattle.std.specs.Prelude.{◌≡◌, ℕ, ◌+◌, List, Option, Some, None, Result, Ok, Err}
use Rattle.std.specs.Option.{option_map}
use Rattle.heap_meaning.specs.Values.{Value}
use Rattle.heap_meaning.specs.Store.{Store}
use Rattle.heap_meaning.specs.Cells.{occurrence}
use Rattle.heap_meaning.specs.Stands.{Naming, Outside, meaning, Stands}
use Rattle.heap_meaning.specs.Heap.{Heap, Belongs}
use Rattle.brs_code.specs.declared.function.ValueType.{ValueType}
use Rattle.machine_meaning.specs.Statements.{typed}
use Rattle.frame_stack.specs.Frame.{Frame, operands_of}
use Rattle.call_release.specs.References.{call_references}
use Rattle.frame_actions.specs.Actions.{last_value, Carries, Hands}

-- whatever store the heap stands for, the type takes what the value means as what this one means
abbrev pub TakenAs : ValueType → Heap → Value → Option Value → Type 0
TakenAs kind heap v taken =
    (name : Naming) (store : Store) (outside : Outside) → Stands name heap.cells store outside → Belongs heap v → typed kind (meaning name v) ≡ option_map (meaning name) taken

-- the type takes the value as this one, which names each cell as often as the value did; or it doesn't take it, and the value is handed back
abbrev pub TypedAs : ValueType → Heap → Value → Result Value Value → Type 0
TypedAs kind heap v (Ok taken) = TakenAs kind heap v (Some taken) × ((k : ℕ) → occurrence k taken ≡ occurrence k v)
TypedAs kind heap v (Err back) = TakenAs kind heap v None × (back ≡ v)

-- the same of the value of the last operand, while the heap counts what the calls hold
abbrev pub LastTakenAs : ValueType → (old : Heap) → (before : List Frame) → Option Value → Type 0
LastTakenAs kind old before taken =
    (name : Naming) (store : Store) (others : Outside) → Stands name old.cells store (λ k. others k + call_references k before)
    → typed kind (meaning name (last_value (operands_of before))) ≡ option_map (meaning name) taken

-- it is held beside what the calls hold; where the type doesn't take it, it was taken back
abbrev pub Takes : ValueType → (old : Heap) → (before : List Frame) → (new : Heap) → (after : List Frame) → Option Value → Type 0
Takes kind old before new after (Some taken) = LastTakenAs kind old before (Some taken) × Hands old before new after taken
Takes kind old before new after None = LastTakenAs kind old before None × Carries old before new after
