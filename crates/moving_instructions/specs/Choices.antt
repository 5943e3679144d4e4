-- What instructions promise that look at a value first.
use Rattle.std.specs.Prelude.{◌≡◌, ℕ, ◌+◌, Bool, true, false, List, Option, Some, None, IfSome}
use Rattle.chan_values.specs.declared.error_code.ErrorCode.TheVariants.{E2}
use Rattle.heap_meaning.specs.declared.plain.Plain.{Plain}
use Rattle.heap_meaning.specs.Values.{Value, Direct}
use Rattle.heap_meaning.specs.Heap.{Heap}
use Rattle.brs_code.specs.declared.instr.Instr.TheVariants.{Load, Branch}
use Rattle.frame_stack.specs.Frame.{Frame, innermost, without_operands, changed}
use Rattle.frame_actions.specs.Actions.{pushed, Carries}
use Rattle.actor_meaning.specs.declared.outcome.Outcome.TheVariants.{Went}
use Rattle.actor_meaning.specs.Performed.{Performed, Faulted}

-- a plain value is the last operand, and the next instruction the one behind
abbrev pub PushesPlain : Plain → (before : List Frame) → (after : List Frame) → Type 0
PushesPlain plain before after = IfSome (innermost before) (λ x. after ≡ changed (pushed (Direct plain) (x.head.place + 1)) before)

-- a local that was set was loaded; nothing has changed where it is unset
abbrev pub LoadPerformed : Option Value → (is_set : Bool) → (old : Heap) → (before : List Frame) → (new : Heap) → (after : List Frame) → (slot : ℕ) → Type 0
LoadPerformed (Some v) is_set old before new after slot = (is_set ≡ true) × Performed old before new after Went (Load slot)
LoadPerformed None is_set old before new after slot = (is_set ≡ false) × (new ≡ old) × (after ≡ before)

-- a condition chose; a value that is no Boolean is an error, and was taken
abbrev pub Branches : Option Bool → (chose : Bool) → (old : Heap) → (before : List Frame) → (new : Heap) → (after : List Frame) → (to : ℕ) → Type 0
Branches (Some b) chose old before new after to = (chose ≡ true) × Performed old before new after Went (Branch to)
Branches None chose old before new after to =
    (chose ≡ false) × Faulted old before E2 (Branch to) × Carries old before new after × (after ≡ changed (without_operands 1) before)
