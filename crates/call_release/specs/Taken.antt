-- What is taken back of the innermost call.
use Rattle.std.specs.Prelude.{ℕ, List, [], ◌∷◌, Option, Some, None}
use Rattle.heap_meaning.specs.Values.{Value}
use Rattle.heap_meaning.specs.Cells.{occurrence}
use Rattle.frame_stack.specs.Frame.{Frame}
use Rattle.call_release.specs.References.{frame_references}

abbrev pub slot_reference : ℕ → Option Value → ℕ
slot_reference k None = 0
slot_reference k (Some v) = occurrence k v

abbrev pub without_slots : Frame → Frame
without_slots frame = record frame { slots = [] }

-- how often the innermost call names cell k
abbrev pub innermost_references : ℕ → List Frame → ℕ
innermost_references k [] = 0
innermost_references k (frame ∷ below) = frame_references k frame
