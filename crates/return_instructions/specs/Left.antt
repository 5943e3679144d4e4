-- What the function of an instruction promises that leaves its call.
use Rattle.std.specs.Prelude.{◌≡◌, ℕ, List}
use Rattle.heap_meaning.specs.Heap.{Heap}
use Rattle.brs_code.specs.declared.instr.Instr.{Instr}
use Rattle.machine_meaning.specs.Image.{Image}
use Rattle.frame_stack.specs.Frame.{Frame}
use Rattle.frame_actions.specs.Actions.{Carries}
use Rattle.actor_meaning.specs.declared.outcome.Outcome.{Outcome}
use Rattle.actor_meaning.specs.declared.outcome.Outcome.TheVariants as o
use Rattle.actor_meaning.specs.View.{Home, Actor}
use Rattle.actor_meaning.specs.Performing.{Performs}
use Rattle.actor_meaning.specs.Performed.{working}
use Rattle.actor_errors.specs.Raising.{path_of}
use Rattle.instruction_effects.specs.Effects.{Circumstance, FaultedWhere, waiting}
use Rattle.return_instructions.specs.declared.leaving.Leaving.{Leaving}
use Rattle.return_instructions.specs.declared.leaving.Leaving.TheVariants as way

-- in this circumstance the innermost call of an actor at work performed the instruction of this line, and the actor is this one after it
abbrev pub LeavesWhere : Circumstance → (line : ℕ) → (old : Heap) → (before : List Frame) → (new : Heap) → ((number : ℕ) → List Home → Actor) → Outcome → Instr → Type 0
LeavesWhere C line old before new actor shown instr =
    (image : Image) (number : ℕ) (homes : List Home) (operands : ℕ) → C image number homes
    → Performs image old (working number homes before) new (actor number homes) shown (record { instr = instr; line = line; operands = operands })

-- the instruction of this line left its call; where it raises an error, what the calls hold is still counted
abbrev pub LeavesCall : Circumstance → (line : ℕ) → (old : Heap) → (before : List Frame) → (new : Heap) → (after : List Frame) → Leaving → Instr → Type 0
LeavesCall C line old before new after way.Went instr = LeavesWhere C line old before new (λ number homes. working number homes after) o.Went instr
LeavesCall C line old before new after (way.Returned value) instr = LeavesWhere C line old before new (λ number homes. waiting number homes after) (o.Returned value) instr
LeavesCall C line old before new after (way.TooBig place) instr = LeavesWhere C line old before new (λ number homes. waiting number homes after) (o.TooBig place) instr
LeavesCall C line old before new after (way.Raises error) instr = FaultedWhere C old before error instr × Carries old before new after × (path_of after ≡ path_of before)
