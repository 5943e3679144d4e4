-- Laws of how an actor is seen.
use Rattle.std.specs.Prelude.{◌≡◌, ℕ, List, ◌∷◌, length, false, Some}
use Rattle.chan_values.specs.declared.error_code.ErrorCode.{ErrorCode}
use Rattle.chan_values.specs.declared.error_code.ErrorCode.TheVariants.{E6}
use Rattle.heap_meaning.specs.Store.{Store}
use Rattle.heap_meaning.specs.Stands.{Naming, Stands, Agrees}
use Rattle.heap_meaning.specs.Heap.{Heap, Moves, no_references}
use Rattle.brs_code.specs.declared.function.Function.{Function}
use Rattle.brs_code.specs.declared.instr.Placed.{Placed}
use Rattle.brs_meaning.specs.Locals as l
use Rattle.machine_meaning.specs.Image.{Image}
use Rattle.machine_meaning.specs.Frame as mm
use Rattle.machine_meaning.specs.Entering.{takes}
use Rattle.machine_meaning.specs.Answering.{bring}
use Rattle.frame_stack.specs.Frame.{Frame}
use Rattle.actor_meaning.specs.declared.outcome.Outcome.{Outcome}
use Rattle.actor_meaning.specs.declared.outcome.Answer.TheVariants.{Failed}
use Rattle.actor_meaning.specs.declared.outcome.Arguments.{Arguments}
use Rattle.actor_meaning.specs.declared.phase.Phase.TheVariants.{Works, Waits, Fails}
use Rattle.actor_meaning.specs.Showing.{arguments_of}
use Rattle.actor_meaning.specs.View.{Home, Actor, held, ActorIs}
use Rattle.actor_meaning.specs.Promises.{HasStep, Steps, Resumes, PutsOnTop, Ends}
use Rattle.actor_meaning.specs.Performing.{Performs, ComesNext}

-- by a naming that agrees with the earlier one on all that an actor holds, it is seen as the same machine, whatever became of the heap and
-- its store
abbrev pub SeenAlike : Type 0
SeenAlike =
    (image : Image) (name name' : Naming) (heap heap' : Heap) (a : Actor) (homes : List l.Home) (machine : mm.Machine) (store store' : Store)
    → ActorIs image name heap a homes machine store → Agrees name name' (held a) → Stands name' heap'.cells store' (held a) → ActorIs image name' heap' a homes machine store'

-- an instruction that comes next, and was performed, is the step of an actor that has one
abbrev pub PerformedIsStep : Type 0
PerformedIsStep =
    (image : Image) (old_heap : Heap) (old : Actor) (new_heap : Heap) (new : Actor) (shown : Outcome) (x : Placed)
    → old.phase ≡ Works → new.number ≡ old.number → ComesNext image old_heap old x → HasStep image old_heap old → Performs image old_heap old new_heap new shown x
    → Steps image old_heap old new_heap new shown

-- an error is handed back to the innermost call of an actor with an open want: that call is about to raise it, and nothing else changes
abbrev pub HandedBack : Type 0
HandedBack =
    (image : Image) (heap : Heap) (number : ℕ) (homes : List Home) (x : Frame) (frames : List Frame) (error : ErrorCode)
    → Resumes image heap (record { number = number; homes = homes; phase = Waits; frames = x ∷ frames }) heap (record { number = number; homes = homes; phase = Fails error; frames = x ∷ frames }) (Failed error)

-- a call with a number of arguments that its function can't take is refused, and nothing changes
abbrev pub RefusedByNumber : Type 0
RefusedByNumber =
    (image : Image) (heap : Heap) (a : Actor) (f : Function) (home : ℕ) (arguments : Arguments)
    → ((store : Store) → takes f (length (bring (arguments_of arguments) f.parameters store).values) ≡ false)
    → PutsOnTop image heap a heap a (Some f) home arguments (Some E6)

-- an actor has ended where the heap took back all that it held
abbrev pub EndedByRelease : Type 0
EndedByRelease = (image : Image) (old_heap : Heap) (a : Actor) (new_heap : Heap) → Moves old_heap new_heap (held a) no_references → Ends image old_heap a new_heap
