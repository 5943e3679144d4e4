-- A value that a call waited for.
use Rattle.std.specs.Prelude.{◌≡◌, ◌+◌, List, IfSome}
use Rattle.heap_meaning.specs.Values.{Value}
use Rattle.heap_meaning.specs.Store.{Store}
use Rattle.heap_meaning.specs.Cells.{occurrence}
use Rattle.heap_meaning.specs.Stands.{Naming, Outside, Stands}
use Rattle.heap_meaning.specs.Heap.{Heap}
use Rattle.frame_stack.specs.declared.header.Landing.{Landing}
use Rattle.frame_stack.specs.declared.header.Landing.TheVariants as d
use Rattle.frame_stack.specs.Operand.{Holds}
use Rattle.frame_stack.specs.Frame.{Frame, with_operand, innermost, changed}
use Rattle.call_release.specs.References.{call_references}

-- on the operands of the call, or nowhere
abbrev pub landed : Landing → Value → Frame → Frame
landed d.Operands v x = with_operand (Holds v) x
landed d.Nowhere v x = x

-- the innermost call has got the value where it waited for it
abbrev pub Lands : Value → (before after : List Frame) → Type 0
Lands v before after = IfSome (innermost before) (λ x. after ≡ changed (landed x.head.landing v) before)

-- whatever the heap stands for while the value is held beside what the calls hold, and others hold more, it stands for while the calls hold
-- what they do after it
abbrev pub Settles : Value → (old : Heap) → (before : List Frame) → (new : Heap) → (after : List Frame) → Type 0
Settles v old before new after =
    (name : Naming) (store : Store) (others : Outside)
    → Stands name old.cells store (λ k. others k + (occurrence k v + call_references k before)) → Stands name new.cells store (λ k. others k + call_references k after)
