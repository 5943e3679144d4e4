-- An actor, and what the calls on it say and change that read no code.
use Rattle.std.specs.Prelude.{◌≡◌, ℕ, Bool, true, false, List, [], ◌∷◌, ◌++◌, Option, Some, None, slice_get, slice_set}
use Rattle.chan_values.specs.declared.place.Place.{Place}
use Rattle.chan_values.specs.Tree.{Tree}
use Rattle.copy_meaning.specs.Laying.{with_tree, value_of_tree}
use Rattle.heap_meaning.specs.Values.{Value}
use Rattle.heap_meaning.specs.Store.{Store}
use Rattle.heap_meaning.specs.Stands.{Naming}
use Rattle.heap_meaning.specs.Heap.{Heap}
use Rattle.brs_meaning.specs.Locals as l
use Rattle.machine_meaning.specs.Image.{Image}
use Rattle.machine_meaning.specs.Frame as mm
use Rattle.frame_stack.specs.Frame.{Frame}
use Rattle.actor_meaning.specs.declared.phase.Phase.{Phase}
use Rattle.actor_meaning.specs.declared.phase.Phase.TheVariants.{Waits}
use Rattle.actor_meaning.specs.View.{Home, Actor, ActorIs}
use Rattle.actor_meaning.specs.Promises.{SeenAs}

-- an actor without homes and calls
abbrev pub begun : (number : ℕ) → Actor
begun number = record { number = number; homes = []; phase = Waits; frames = [] }

-- one home more, whose names read in the source scope
abbrev pub with_home : Value → Actor → Actor
with_home m a = record a { homes = a.homes ++ record { scope = 0; m = m } ∷ [] }

-- the home that was added is seen with this associative array as its `m`, laid down anew, and all else as before
pub record AddsHome (old_heap : Heap) (old : Actor) (new_heap : Heap) (new : Actor) (t : Tree) : Type 0 where
  pub m : Value
  pub is : new ≡ with_home m old
  pub seen : (image : Image) (name : Naming) (homes : List l.Home) (machine : mm.Machine) (store : Store) → ActorIs image name old_heap old homes machine store
      → SeenAs image new_heap new (homes ++ record { scope = 0; m = value_of_tree store t } ∷ []) machine (with_tree store t)

abbrev pub rescoped : Option Home → (n scope : ℕ) → List Home → List Home
rescoped None n scope homes = homes
rescoped (Some h) n scope homes = slice_set homes n (record h { scope = scope })

-- names in the calls of this home read in another scope
abbrev pub with_scope : (home scope : ℕ) → Actor → Actor
with_scope n scope a = record a { homes = rescoped (slice_get a.homes n) n scope a.homes }

-- an actor at work, or about to raise an error, has a call
abbrev pub HasCalls : Phase → List Frame → Type 0
HasCalls Waits frames = Unit {0}
HasCalls phase [] = ⊥
HasCalls phase (x ∷ frames) = Unit {0}

-- no call is in progress
abbrev pub idle : Phase → List Frame → Bool
idle Waits [] = true
idle phase frames = false

-- the innermost call has a step
abbrev pub at_work : Phase → Bool
at_work Waits = false
at_work phase = true

-- the call that has the open want
abbrev pub wanting : Phase → List Frame → Option Frame
wanting Waits (x ∷ frames) = Some x
wanting phase frames = None

abbrev pub place_of : Option Frame → Option Place
place_of None = None
place_of (Some x) = Some (record { path = x.head.path; line = x.head.line })

abbrev pub home_of : Option Frame → Option ℕ
home_of None = None
home_of (Some x) = Some x.head.home
