-- What the calls on the running machine of an actor promise: whatever machine and store it is seen as before, it is seen after the call as
-- what the meaning gives of them. The naming after it may be another one; what stands for the homes is the same.
use Rattle.std.specs.Prelude.{◌≡◌, ℕ, List, Option, Some, None}
use Rattle.chan_values.specs.declared.error_code.ErrorCode.{ErrorCode}
use Rattle.heap_meaning.specs.Store.{Store}
use Rattle.heap_meaning.specs.Stands.{Naming, Stands}
use Rattle.heap_meaning.specs.Heap.{Heap, no_references}
use Rattle.brs_code.specs.declared.function.Function.{Function}
use Rattle.brs_meaning.specs.Locals as l
use Rattle.brs_meaning.specs.Reduction as r
use Rattle.machine_meaning.specs.Image.{Image}
use Rattle.machine_meaning.specs.Frame as mm
use Rattle.machine_meaning.specs.Stepping.{Shows, StepOf}
use Rattle.machine_meaning.specs.Answering as s
use Rattle.actor_meaning.specs.declared.outcome.Outcome.{Outcome}
use Rattle.actor_meaning.specs.declared.outcome.Answer.{Answer}
use Rattle.actor_meaning.specs.declared.outcome.Arguments.{Arguments}
use Rattle.actor_meaning.specs.View.{Actor, ActorIs}
use Rattle.actor_meaning.specs.Showing.{OutcomeIs, reply_of, arguments_of}

-- ---- what a step needs

-- the actor has a step: as whatever it is seen, that machine has one. What stands for a tree at work has a step.
abbrev pub HasStep : Image → Heap → Actor → Type 0
HasStep image heap a =
    (name : Naming) (homes : List l.Home) (machine : mm.Machine) (store : Store) → ActorIs image name heap a homes machine store
    → (outcome : r.Outcome) × (next : mm.Machine) × (after : Store) × StepOf image a.number homes machine store (Shows outcome next after)

-- ---- what the calls do

-- seen as some machine and store of which this holds
pub record SeenAs (image : Image) (heap : Heap) (a : Actor) (homes : List l.Home) (machine : mm.Machine) (store : Store) : Type 0 where
  pub naming : Naming
  pub is : ActorIs image naming heap a homes machine store

-- a step shows what the step of the machine shows
pub record Stepped (image : Image) (new_heap : Heap) (new : Actor) (shown : Outcome) (homes : List l.Home) (machine : mm.Machine) (store : Store) : Type 0 where
  pub outcome : r.Outcome
  pub next : mm.Machine
  pub after : Store
  pub step : StepOf image new.number homes machine store (Shows outcome next after)
  pub shows : OutcomeIs shown outcome
  pub seen : SeenAs image new_heap new homes next after

abbrev pub Steps : Image → Heap → Actor → Heap → Actor → Outcome → Type 0
Steps image old_heap old new_heap new shown =
    (name : Naming) (homes : List l.Home) (machine : mm.Machine) (store : Store) → ActorIs image name old_heap old homes machine store
    → Stepped image new_heap new shown homes machine store

-- an open want is answered
abbrev pub Resumes : Image → Heap → Actor → Heap → Actor → Answer → Type 0
Resumes image old_heap old new_heap new answer =
    (name : Naming) (homes : List l.Home) (machine : mm.Machine) (store : Store) → ActorIs image name old_heap old homes machine store
    → SeenAs image new_heap new homes (s.replied (reply_of answer) machine store).machine (s.replied (reply_of answer) machine store).store

abbrev pub CallIs : Image → Heap → Actor → List l.Home → (below : List mm.Suspended) → Store → Option ErrorCode → s.Put → Type 0
CallIs image new_heap new homes below store None (s.Done state) = SeenAs image new_heap new homes state.machine state.store
CallIs image new_heap new homes below store (Some error) (s.Refused error') = (error ≡ error') × SeenAs image new_heap new homes (mm.Waits below) store
CallIs image new_heap new homes below store _ _ = ⊥

-- a call of the function was put on top of the calls that wait, or refused, and then nothing has changed
abbrev pub PutsOnTop : Image → Heap → Actor → Heap → Actor → Option Function → (home : ℕ) → Arguments → Option ErrorCode → Type 0
PutsOnTop image old_heap old new_heap new None home arguments refusal = ⊥
PutsOnTop image old_heap old new_heap new (Some f) home arguments refusal =
    (name : Naming) (homes : List l.Home) (below : List mm.Suspended) (store : Store) → ActorIs image name old_heap old homes (mm.Waits below) store
    → CallIs image new_heap new homes below store refusal (s.put f home homes (arguments_of arguments) below store)

-- all that the actor held was released
abbrev pub Ends : Image → Heap → Actor → Heap → Type 0
Ends image old_heap old new_heap =
    (name : Naming) (homes : List l.Home) (machine : mm.Machine) (store : Store) → ActorIs image name old_heap old homes machine store
    → Stands name new_heap.cells store no_references
