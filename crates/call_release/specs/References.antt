-- How often what calls in progress hold names a cell.
use Rattle.std.specs.Prelude.{ℕ, ◌+◌, List, [], ◌∷◌, Some, None}
use Rattle.heap_meaning.specs.Cells.{occurrence}
use Rattle.frame_stack.specs.Operand.{Operand, Holds, Items, Keys}
use Rattle.frame_stack.specs.Frame.{Slots, Frame}

abbrev pub operand_references : ℕ → Operand → ℕ
operand_references k (Holds v) = occurrence k v
operand_references k (Items array next) = occurrence k array
operand_references k (Keys keys) = 0

abbrev pub all_operand_references : ℕ → List Operand → ℕ
all_operand_references k [] = 0
all_operand_references k (x ∷ operands) = operand_references k x + all_operand_references k operands

abbrev pub slot_references : ℕ → Slots → ℕ
slot_references k [] = 0
slot_references k (None ∷ slots) = slot_references k slots
slot_references k (Some v ∷ slots) = occurrence k v + slot_references k slots

abbrev pub frame_references : ℕ → Frame → ℕ
frame_references k x = occurrence k x.m + all_operand_references k x.operands + slot_references k x.slots

abbrev pub call_references : ℕ → List Frame → ℕ
call_references k [] = 0
call_references k (x ∷ frames) = frame_references k x + call_references k frames
