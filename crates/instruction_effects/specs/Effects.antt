-- What the function of an instruction promises where its call may go on, raise an error, or wait.
use Rattle.std.specs.Prelude.{◌≡◌, ℕ, List, Some, IfSome}
use Rattle.chan_values.specs.declared.error_code.ErrorCode.{ErrorCode}
use Rattle.heap_meaning.specs.Heap.{Heap}
use Rattle.brs_code.specs.declared.function.Function.{Function}
use Rattle.brs_code.specs.declared.instr.Instr.{Instr}
use Rattle.machine_meaning.specs.Image.{Image, function_at}
use Rattle.frame_stack.specs.Frame.{Frame, innermost}
use Rattle.frame_actions.specs.Actions.{Carries}
use Rattle.actor_meaning.specs.declared.outcome.Outcome.{Outcome}
use Rattle.actor_meaning.specs.declared.outcome.Outcome.TheVariants.{Went, Wants}
use Rattle.actor_meaning.specs.declared.phase.Phase.TheVariants.{Waits}
use Rattle.actor_meaning.specs.View.{Home, Actor}
use Rattle.actor_meaning.specs.Performing.{Performs, RaisesError}
use Rattle.actor_meaning.specs.Performed.{working}
use Rattle.actor_errors.specs.Raising.{path_of}
use Rattle.instruction_effects.specs.declared.effect.Effect.{Effect}
use Rattle.instruction_effects.specs.declared.effect.Effect.TheVariants as e

-- an actor whose innermost call has an open want
abbrev pub waiting : (number : ℕ) → List Home → List Frame → Actor
waiting number homes frames = record { number = number; homes = homes; phase = Waits; frames = frames }

-- what an instruction may have to know of the channel and the actor that performs it
abbrev pub Circumstance : Type 1
Circumstance = Image → (number : ℕ) → List Home → Type 0

-- the innermost call is one of this function
abbrev pub Runs : Function → List Frame → Circumstance
Runs f frames image number homes = IfSome (innermost frames) (λ x. function_at image x.head.function ≡ Some f)

-- nothing has to be known
abbrev pub Anywhere : Circumstance
Anywhere image number homes = Unit {0}

-- in this circumstance the innermost call of an actor at work performed the instruction, and goes on
abbrev pub PerformedWhere : Circumstance → (old : Heap) → (before : List Frame) → (new : Heap) → (after : List Frame) → Outcome → Instr → Type 0
PerformedWhere C old before new after shown instr =
    (image : Image) (number : ℕ) (homes : List Home) (line operands : ℕ) → C image number homes
    → Performs image old (working number homes before) new (working number homes after) shown (record { instr = instr; line = line; operands = operands })

-- the instruction of this line was performed, and its call waits for the answer
abbrev pub AsksWhere : Circumstance → (line : ℕ) → (old : Heap) → (before : List Frame) → (new : Heap) → (after : List Frame) → Outcome → Instr → Type 0
AsksWhere C line old before new after shown instr =
    (image : Image) (number : ℕ) (homes : List Home) (operands : ℕ) → C image number homes
    → Performs image old (working number homes before) new (waiting number homes after) shown (record { instr = instr; line = line; operands = operands })

-- the innermost call finds this error at the instruction
abbrev pub FaultedWhere : Circumstance → Heap → List Frame → ErrorCode → Instr → Type 0
FaultedWhere C heap frames error instr = (image : Image) (number : ℕ) (homes : List Home) → C image number homes → RaisesError image heap (working number homes frames) instr error

-- the effect of the instruction of this line; where it raises an error, what the calls hold is still counted
abbrev pub Does : Circumstance → (line : ℕ) → (old : Heap) → (before : List Frame) → (new : Heap) → (after : List Frame) → Effect → Instr → Type 0
Does C line old before new after e.Went instr = PerformedWhere C old before new after Went instr
Does C line old before new after (e.Raises error) instr = FaultedWhere C old before error instr × Carries old before new after × (path_of after ≡ path_of before)
Does C line old before new after (e.Asks request) instr = AsksWhere C line old before new after (Wants request) instr

-- the effect of an instruction that has to know nothing, whatever its line is
abbrev pub DoesAnywhere : (old : Heap) → (before : List Frame) → (new : Heap) → (after : List Frame) → Effect → Instr → Type 0
DoesAnywhere old before new after effect instr = (line : ℕ) → Does Anywhere line old before new after effect instr
