-- An error handed back, a call that is refused, and the end of an actor.
use Rattle.std.proofs.Common.{◌≡◌, ℕ, List, [], ◌∷◌, length, Some, refl, sym, subst, arith}
use Rattle.std.specs.Prelude.{Bool, false, cond, nat_le}
use Rattle.chan_values.specs.declared.error_code.ErrorCode.{ErrorCode}
use Rattle.chan_values.specs.declared.error_code.ErrorCode.TheVariants.{E6, E8}
use Rattle.heap_meaning.specs.Store.{Store}
use Rattle.heap_meaning.specs.Stands.{Naming}
use Rattle.heap_meaning.specs.Heap.{Heap, Moves, no_references}
use Rattle.brs_code.specs.declared.function.Function.{Function}
use Rattle.brs_meaning.specs.Locals as l
use Rattle.brs_meaning.specs.Running.{OnTop}
use Rattle.brs_meaning.specs.Reduction.{home_of}
use Rattle.brs_meaning.specs.Binding.{most_calls}
use Rattle.machine_meaning.specs.Image.{Image}
use Rattle.machine_meaning.specs.Frame as mm
use Rattle.machine_meaning.specs.Entering.{Refuses, takes, begun_with, bound, unset}
use Rattle.machine_meaning.specs.Answering.{bring, put_with, replied}
use Rattle.frame_stack.specs.Frame.{Frame}
use Rattle.actor_meaning.specs.declared.outcome.Answer.TheVariants.{Failed}
use Rattle.actor_meaning.specs.declared.outcome.Arguments.{Arguments}
use Rattle.actor_meaning.specs.declared.phase.Phase.TheVariants.{Waits, Fails}
use Rattle.actor_meaning.specs.Showing.{arguments_of, reply_of}
use Rattle.actor_meaning.specs.View.{Home, Actor, held, ActorIs}
use Rattle.actor_meaning.specs.Promises.{SeenAs, Resumes, CallIs, PutsOnTop, Ends}

-- ---- an error handed back

module _ (image : Image) (heap : Heap) (number : ℕ) (own : List Home) (x : Frame) (frames : List Frame) (error : ErrorCode) where
  abbrev before : Actor
  before = record { number = number; homes = own; phase = Waits; frames = x ∷ frames }

  abbrev after : Actor
  after = record { number = number; homes = own; phase = Fails error; frames = x ∷ frames }

  handed : (name : Naming) (homes : List l.Home) (machine : mm.Machine) (store : Store) → ActorIs image name heap before homes machine store
      → SeenAs image heap after homes (replied (reply_of (Failed error)) machine store).machine (replied (reply_of (Failed error)) machine store).store
  handed name homes (mm.Waits (h ∷ below)) store is = record { naming = name; is = record { stands = is.stands; homes_are = is.homes_are; machine_is = (refl, is.machine_is.0, is.machine_is.1) } }
  handed name homes (mm.Waits []) store is = absurd is.machine_is
  handed name homes (mm.Works frame below) store is = absurd is.machine_is
  handed name homes (mm.Fails e h below) store is = absurd is.machine_is

  pub handed_back : Resumes image heap before heap after (Failed error)
  handed_back = handed

-- ---- a call that is refused

pub refused_by_number : (image : Image) (heap : Heap) (a : Actor) (f : Function) (home : ℕ) (arguments : Arguments)
    → ((store : Store) → takes f (length (bring (arguments_of arguments) f.parameters store).values) ≡ false)
    → PutsOnTop image heap a heap a (Some f) home arguments (Some E6)
refused_by_number image heap a f home arguments wrong = λ name homes below store is.
    let b = bring (arguments_of arguments) f.parameters store in
    subst
    (λ (t : Bool). CallIs image heap a homes below store (Some E6) (put_with (cond t (cond (nat_le most_calls (length below)) (Refuses E8) (begun_with OnTop f home (home_of homes home).m (length b.values) (bound f.parameters b.values (unset f)))) (Refuses E6)) below b.store))
    (sym (wrong store))
    (refl, record { naming = name; is = is })

-- ---- the end

pub ended_by_release : (image : Image) (old_heap : Heap) (a : Actor) (new_heap : Heap) → Moves old_heap new_heap (held a) no_references → Ends image old_heap a new_heap
ended_by_release image old_heap a new_heap moves = λ name homes machine store is. moves name store (held a) no_references is.stands (λ k. omega arith)
