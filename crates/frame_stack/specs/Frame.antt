-- The calls in progress of an actor, with the values of its heap.
use Rattle.std.specs.Prelude.{ℕ, List, [], ◌∷◌, drop, take, ◌++◌, replicate, Option, Some, None, slice_get, slice_set}
use Rattle.heap_meaning.specs.Values.{Value}
use Rattle.frame_stack.specs.declared.header.CallHead.{CallHead}
use Rattle.frame_stack.specs.Operand.{Operand}

-- the locals by slot: a value, or unset
abbrev pub Slots : Type 0
Slots = List (Option Value)

abbrev pub or_unset : Option (Option Value) → Option Value
or_unset None = None
or_unset (Some v) = v

abbrev pub slot_value : Slots → ℕ → Option Value
slot_value slots n = or_unset (slice_get slots n)

-- a call in progress: its plain part, its `m`, its operands, of which the last stands first, and its slots
pub record Frame : Type 0 where
  pub head : CallHead
  pub m : Value
  pub operands : List Operand
  pub slots : Slots

abbrev pub with_head : CallHead → Frame → Frame
with_head head frame = record frame { head = head }

abbrev pub with_m : Value → Frame → Frame
with_m m frame = record frame { m = m }

-- one operand more, on the others
abbrev pub with_operand : Operand → Frame → Frame
with_operand operand frame = record frame { operands = operand ∷ frame.operands }

-- without so many of the last operands
abbrev pub without_operands : ℕ → Frame → Frame
without_operands n frame = record frame { operands = drop n frame.operands }

abbrev pub with_slot : ℕ → Value → Frame → Frame
with_slot n v frame = record frame { slots = slice_set frame.slots n (Some v) }

-- one slot more, behind the others
abbrev pub with_last_slot : Option Value → Frame → Frame
with_last_slot v frame = record frame { slots = frame.slots ++ v ∷ [] }

-- ---- the calls in progress, the innermost first

abbrev pub innermost : List Frame → Option Frame
innermost [] = None
innermost (frame ∷ below) = Some frame

abbrev pub operands_of : List Frame → List Operand
operands_of [] = []
operands_of (frame ∷ below) = frame.operands

abbrev pub slots_of : List Frame → Slots
slots_of [] = []
slots_of (frame ∷ below) = frame.slots

-- the innermost call changes in this way, and the others are as before
abbrev pub changed : (Frame → Frame) → List Frame → List Frame
changed change [] = []
changed change (frame ∷ below) = change frame ∷ below

-- the same of the call below the innermost one
abbrev pub changed_below : (Frame → Frame) → List Frame → List Frame
changed_below change [] = []
changed_below change (frame ∷ below) = frame ∷ changed change below

abbrev pub operands_below : List Frame → List Operand
operands_below [] = []
operands_below (frame ∷ below) = operands_of below

abbrev pub calls_below : List Frame → List Frame
calls_below [] = []
calls_below (frame ∷ below) = below

-- a call begins with these operands, and with so many slots that are unset
abbrev pub begun : CallHead → Value → (slots : ℕ) → List Operand → Frame
begun head m slots operands = record { head = head; m = m; operands = operands; slots = replicate slots None }

-- a call begins with the last operands of the call that was the innermost one, which has them no longer
abbrev pub entered : CallHead → Value → (slots arguments : ℕ) → List Frame → List Frame
entered head m slots n frames = begun head m slots (take n (operands_of frames)) ∷ changed (without_operands n) frames
