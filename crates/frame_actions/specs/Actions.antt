-- What moves of values do to the innermost call, and that the heap counts what the calls hold before and after them.
use Rattle.std.specs.Prelude.{◌≡◌, ℕ, ◌+◌, Bool, true, false, List, [], ◌∷◌, Option, Some, None}
use Rattle.heap_meaning.specs.declared.plain.Plain.{Plain}
use Rattle.heap_meaning.specs.declared.plain.Plain.TheVariants.{Truth}
use Rattle.heap_meaning.specs.Values.{Value, filler}
use Rattle.heap_meaning.specs.Reading.{plain_of}
use Rattle.heap_meaning.specs.Store.{Store}
use Rattle.heap_meaning.specs.Cells.{occurrence}
use Rattle.heap_meaning.specs.Stands.{Naming, Outside, Stands}
use Rattle.heap_meaning.specs.Heap.{Heap}
use Rattle.frame_stack.specs.declared.header.CallHead.{CallHead}
use Rattle.frame_stack.specs.Operand.{Operand, Holds, value_of}
use Rattle.frame_stack.specs.Frame.{Frame, with_head, with_operand, without_operands, with_slot, changed}
use Rattle.call_release.specs.References.{call_references}

-- ---- the innermost call

abbrev pub head_at : ℕ → CallHead → CallHead
head_at to head = record head { place = to }

-- the next instruction is the one at this place
abbrev pub at_place : ℕ → Frame → Frame
at_place to frame = with_head (head_at to frame.head) frame

-- so many of the last operands are gone
abbrev pub dropped : (n to : ℕ) → Frame → Frame
dropped n to frame = at_place to (without_operands n frame)

-- a value is the last operand
abbrev pub pushed : Value → (to : ℕ) → Frame → Frame
pushed v to frame = at_place to (with_operand (Holds v) frame)

-- the value of the last operand
abbrev pub last_value : List Operand → Value
last_value [] = filler
last_value (x ∷ operands) = value_of x

-- the last operand's value is in a slot
abbrev pub stored : (slot to : ℕ) → Frame → Frame
stored n to frame = dropped 1 to (with_slot n (last_value frame.operands) frame)

-- a Boolean
abbrev pub truth_in : Option Plain → Option Bool
truth_in (Some (Truth b)) = Some b
truth_in _ = None

abbrev pub truth_of : Value → Option Bool
truth_of v = truth_in (plain_of v)

-- ---- with the heap

-- whatever the heap stands for while the calls hold what they do, and others hold more, it stands for after it
abbrev pub Carries : (old : Heap) → (before : List Frame) → (new : Heap) → (after : List Frame) → Type 0
Carries old before new after =
    (name : Naming) (store : Store) (others : Outside)
    → Stands name old.cells store (λ k. others k + call_references k before) → Stands name new.cells store (λ k. others k + call_references k after)

-- the same, and a value is held beside what the calls hold
abbrev pub Hands : (old : Heap) → (before : List Frame) → (new : Heap) → (after : List Frame) → Value → Type 0
Hands old before new after v =
    (name : Naming) (store : Store) (others : Outside)
    → Stands name old.cells store (λ k. others k + call_references k before) → Stands name new.cells store (λ k. others k + (occurrence k v + call_references k after))

-- the value of a slot is the last operand; nothing has changed where the slot is unset
abbrev pub Loaded : Option Value → (to : ℕ) → (is_set : Bool) → (old : Heap) → (before : List Frame) → (new : Heap) → (after : List Frame) → Type 0
Loaded (Some v) to is_set old before new after = (is_set ≡ true) × (after ≡ changed (pushed v to) before) × Carries old before new after
Loaded None to is_set old before new after = (is_set ≡ false) × (new ≡ old) × (after ≡ before)
