-- What the function of an instruction promises of the calls in progress and their heap, whatever actor has them.
use Rattle.std.specs.Prelude.{ℕ, List}
use Rattle.chan_values.specs.declared.error_code.ErrorCode.{ErrorCode}
use Rattle.heap_meaning.specs.Heap.{Heap}
use Rattle.brs_code.specs.declared.instr.Instr.{Instr}
use Rattle.machine_meaning.specs.Image.{Image}
use Rattle.frame_stack.specs.Frame.{Frame}
use Rattle.actor_meaning.specs.declared.outcome.Outcome.{Outcome}
use Rattle.actor_meaning.specs.declared.phase.Phase.TheVariants.{Works}
use Rattle.actor_meaning.specs.View.{Home, Actor}
use Rattle.actor_meaning.specs.Performing.{Performs, RaisesError}

-- an actor at work
abbrev pub working : (number : ℕ) → List Home → List Frame → Actor
working number homes frames = record { number = number; homes = homes; phase = Works; frames = frames }

-- the innermost call of an actor at work performed the instruction, wherever in its code it stands
abbrev pub Performed : (old : Heap) → (before : List Frame) → (new : Heap) → (after : List Frame) → Outcome → Instr → Type 0
Performed old before new after shown instr =
    (image : Image) (number : ℕ) (homes : List Home) (line operands : ℕ)
    → Performs image old (working number homes before) new (working number homes after) shown (record { instr = instr; line = line; operands = operands })

-- the innermost call of an actor at work finds this error at the instruction
abbrev pub Faulted : Heap → List Frame → ErrorCode → Instr → Type 0
Faulted heap frames error instr = (image : Image) (number : ℕ) (homes : List Home) → RaisesError image heap (working number homes frames) instr error
