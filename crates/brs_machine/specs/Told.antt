-- What the world is told of an actor is what it is told of the machine.
use Rattle.std.specs.Prelude.{◌≡◌, List}
use Rattle.heap_meaning.specs.Store.{Store}
use Rattle.heap_meaning.specs.Stands.{Naming}
use Rattle.heap_meaning.specs.Heap.{Heap}
use Rattle.brs_meaning.specs.Locals as l
use Rattle.machine_meaning.specs.Image.{Image}
use Rattle.machine_meaning.specs.Frame as mm
use Rattle.machine_meaning.specs.Answering as m
use Rattle.actor_meaning.specs.View.{Actor, ActorIs}
use Rattle.brs_machine.specs.Actors.{idle, at_work, wanting, place_of, home_of}

-- as whatever machine the actor is seen, both tell the same
abbrev pub ToldAlike : {A : Type 0} → (Actor → A) → (mm.Machine → A) → Type 0
ToldAlike told meant = (image : Image) (name : Naming) (heap : Heap) (a : Actor) (homes : List l.Home) (machine : mm.Machine) (store : Store) → ActorIs image name heap a homes machine store → told a ≡ meant machine

abbrev pub IdleAlike : Type 0
IdleAlike = ToldAlike (λ a. idle a.phase a.frames) m.is_idle

abbrev pub AtWorkAlike : Type 0
AtWorkAlike = ToldAlike (λ a. at_work a.phase) m.is_at_work

abbrev pub PlaceAlike : Type 0
PlaceAlike = ToldAlike (λ a. place_of (wanting a.phase a.frames)) m.want_place

abbrev pub HomeAlike : Type 0
HomeAlike = ToldAlike (λ a. home_of (wanting a.phase a.frames)) m.want_home
