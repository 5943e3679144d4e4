-- What becomes of calls in progress once the access of their innermost one is made.
use Rattle.std.specs.Prelude.{◌≡◌, ℕ, ◌+◌, List, IfSome}
use Rattle.heap_meaning.specs.Values.{Value}
use Rattle.heap_meaning.specs.Store.{Store}
use Rattle.heap_meaning.specs.Cells.{occurrence}
use Rattle.heap_meaning.specs.Stands.{Naming, Outside, Stands}
use Rattle.heap_meaning.specs.Heap.{Heap}
use Rattle.object_operations.specs.declared.applied.Applied.TheVariants as a
use Rattle.frame_stack.specs.declared.header.CallHead.{CallHead}
use Rattle.frame_stack.specs.declared.header.Landing.{Landing}
use Rattle.frame_stack.specs.declared.header.Landing.TheVariants as d
use Rattle.frame_stack.specs.Frame.{Frame, innermost, changed, with_head}
use Rattle.call_release.specs.References.{call_references}
use Rattle.frame_actions.specs.Actions.{dropped, pushed, Carries}
use Rattle.actor_meaning.specs.declared.outcome.Request.TheVariants as s
use Rattle.instruction_effects.specs.declared.effect.Effect.{Effect}
use Rattle.instruction_effects.specs.declared.effect.Effect.TheVariants as e
use Rattle.member_accesses.specs.declared.reached.Reached.{Reached}
use Rattle.member_accesses.specs.declared.reached.Reached.TheVariants as r

-- ---- the innermost call

-- a value is on the operands, or nowhere
abbrev pub landed : Landing → Value → (to : ℕ) → Frame → Frame
landed d.Operands v to frame = pushed v to frame
landed d.Nowhere v to frame = frame

abbrev pub head_waits : Landing → (line : ℕ) → CallHead → CallHead
head_waits landing line head = record head { line = line; landing = landing }

-- a value is awaited at an instruction of this line
abbrev pub waits : Landing → (line : ℕ) → Frame → Frame
waits landing line frame = with_head (head_waits landing line frame.head) frame

-- ---- with the heap

-- a value that was out is held by the calls, or taken back: whatever the heap stands for before, it stands for after it
abbrev pub TakesIn : Value → (old : Heap) → (before : List Frame) → (new : Heap) → (after : List Frame) → Type 0
TakesIn v old before new after =
    (name : Naming) (store : Store) (others : Outside)
    → Stands name old.cells store (λ k. occurrence k v + (others k + call_references k before)) → Stands name new.cells store (λ k. others k + call_references k after)

-- so many operands are gone, and the value landed or is awaited; nothing has changed where there was an error
abbrev pub Settles : Landing → (line taken : ℕ) → Reached → Effect → (old : Heap) → (before : List Frame) → (new : Heap) → (after : List Frame) → Type 0
Settles landing line n (r.Done (a.Value v)) e.Went old before new after =
    IfSome (innermost before) (λ x. after ≡ changed (λ y. landed landing v (x.head.place + 1) (dropped n (x.head.place + 1) y)) before) × TakesIn v old before new after
Settles landing line n (r.Done (a.Raised error)) (e.Raises raised) old before new after = (raised ≡ error) × (new ≡ old) × (after ≡ before)
Settles landing line n (r.Asks access) (e.Asks request) old before new after =
    (request ≡ s.Access access)
    × IfSome (innermost before) (λ x. after ≡ changed (λ y. waits landing line (dropped n (x.head.place + 1) y)) before)
    × Carries old before new after
Settles landing line n _ _ old before new after = ⊥
