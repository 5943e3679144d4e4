-- What it means that an error ended all calls of an actor.
use Rattle.std.specs.Prelude.{◌≡◌, ℕ, List, [], ◌∷◌, Option, Some, None, IfSome}
use Rattle.chan_values.specs.declared.error_code.ErrorCode.{ErrorCode}
use Rattle.chan_values.specs.declared.place.Place.{Place}
use Rattle.heap_meaning.specs.Heap.{Heap}
use Rattle.brs_code.specs.declared.instr.Instr.{Instr}
use Rattle.machine_meaning.specs.Image.{Image}
use Rattle.frame_stack.specs.declared.header.CallHead.{CallHead}
use Rattle.frame_stack.specs.Frame.{Frame, innermost}
use Rattle.frame_actions.specs.Actions.{Carries}
use Rattle.actor_meaning.specs.declared.outcome.Outcome.{Outcome}
use Rattle.actor_meaning.specs.declared.outcome.Outcome.TheVariants.{Raised}
use Rattle.actor_meaning.specs.declared.phase.Phase.TheVariants.{Waits, Fails}
use Rattle.actor_meaning.specs.View.{Home, Actor}
use Rattle.actor_meaning.specs.Promises.{Steps}
use Rattle.actor_meaning.specs.Performing.{Performs, RaisesError}
use Rattle.actor_meaning.specs.Performed.{working}

-- an actor without calls
abbrev pub idle : (number : ℕ) → List Home → Actor
idle number homes = record { number = number; homes = homes; phase = Waits; frames = [] }

-- an actor whose innermost call is about to raise the error that was handed back to it
abbrev pub failing : (number : ℕ) → List Home → ErrorCode → List Frame → Actor
failing number homes error frames = record { number = number; homes = homes; phase = Fails error; frames = frames }

abbrev pub place_of : CallHead → (line : ℕ) → Place
place_of head line = record { path = head.path; line = line }

-- the path of the innermost call's function
abbrev pub path_of : List Frame → Option ℕ
path_of [] = None
path_of (x ∷ below) = Some x.head.path

-- the calls are gone with all that they held, and the error is told with the line in the innermost one
pub record Ended (error : ErrorCode) (line : ℕ) (old : Heap) (before : List Frame) (new : Heap) (after : List Frame) (shown : Outcome) : Type 0 where
  pub frames : after ≡ []
  pub carries : Carries old before new after
  pub told : IfSome (innermost before) (λ x. shown ≡ Raised error (place_of x.head line))

-- whenever an instruction of this line raises the error, in a call of the same function, and the heap has counted what the calls hold since,
-- this is its step
abbrev pub IsStep : ErrorCode → (line : ℕ) → (mid : Heap) → (middle : List Frame) → (new : Heap) → Outcome → Type 0
IsStep error line mid middle new shown =
    (old : Heap) (before : List Frame) (instr : Instr) (image : Image) (number : ℕ) (homes : List Home) (operands : ℕ)
    → RaisesError image old (working number homes before) instr error → path_of before ≡ path_of middle → Carries old before mid middle
    → Performs image old (working number homes before) new (idle number homes) shown (record { instr = instr; line = line; operands = operands })

pub record Raises (error : ErrorCode) (line : ℕ) (old : Heap) (before : List Frame) (new : Heap) (after : List Frame) (shown : Outcome) : Type 0 where
  pub ended : Ended error line old before new after shown
  pub is_step : IsStep error line old before new shown

pub record RaisesHandedBack (error : ErrorCode) (old : Heap) (before : List Frame) (new : Heap) (after : List Frame) (shown : Outcome) : Type 0 where
  pub frames : after ≡ []
  pub is_step : (image : Image) (number : ℕ) (homes : List Home) → Steps image old (failing number homes error before) new (idle number homes) shown
