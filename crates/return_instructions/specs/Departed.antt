-- A call that ended with a value.
use Rattle.std.specs.Prelude.{◌≡◌, ℕ, ◌+◌, List, map, Option, Some, None}
use Rattle.chan_values.specs.declared.place.Place.{Place}
use Rattle.chan_values.specs.Tree.{Tree}
use Rattle.chan_values.specs.View.{tree_of}
use Rattle.heap_meaning.specs.Values.{Value}
use Rattle.heap_meaning.specs.Store.{Store}
use Rattle.heap_meaning.specs.Cells.{occurrence}
use Rattle.heap_meaning.specs.Stands.{Naming, Outside, meaning, Stands}
use Rattle.heap_meaning.specs.Heap.{Heap, Belongs}
use Rattle.brs_copy.specs.declared.leave.CopyFault.{CopyFault}
use Rattle.brs_copy.specs.declared.leave.CopyFault.TheVariants.{TooDeep, TooLarge, NoMemory}
use Rattle.brs_meaning.specs.Leaving.{leaving}
use Rattle.brs_meaning.specs.Locals as l
use Rattle.machine_meaning.specs.Image.{Image, place_at}
use Rattle.machine_meaning.specs.Frame as mm
use Rattle.machine_meaning.specs.Stepping.{Shown, leave}
use Rattle.frame_stack.specs.Frame.{Frame}
use Rattle.call_release.specs.References.{call_references}
use Rattle.actor_meaning.specs.declared.outcome.Outcome.TheVariants as o
use Rattle.actor_meaning.specs.declared.phase.Phase.TheVariants.{Works}
use Rattle.actor_meaning.specs.View.{Home, home_meaning, home_references, MachineIs}
use Rattle.actor_meaning.specs.Performing.{ShownAs}
use Rattle.actor_meaning.specs.Performed.{working}
use Rattle.instruction_effects.specs.Effects.{waiting}
use Rattle.return_instructions.specs.declared.leaving.Leaving.{Leaving}
use Rattle.return_instructions.specs.declared.leaving.Leaving.TheVariants as way

-- ---- a value that leaves the actor

-- the portable value, or that there is none, with the place
abbrev pub IsOut : Option Tree → Place → Leaving → Type 0
IsOut (Some t) place (way.Returned value) = tree_of value ≡ t
IsOut None place (way.TooBig at) = at ≡ place
IsOut _ _ _ = ⊥

-- what is told of a copy that failed
abbrev pub IsRefusal : CopyFault → Place → Leaving → Type 0
IsRefusal NoMemory place left = ⊥
IsRefusal TooDeep place left = left ≡ way.TooBig place
IsRefusal TooLarge place left = left ≡ way.TooBig place

abbrev pub IsNoError : Leaving → Type 0
IsNoError (way.Raises error) = ⊥
IsNoError _ = Unit {0}

-- whatever store the heap stands for, this is what the value unfolds to there
pub record LeavesActor (heap : Heap) (v : Value) (place : Place) (left : Leaving) : Type 0 where
  pub no_error : IsNoError left
  pub is_out : (name : Naming) (store : Store) (outside : Outside) → Stands name heap.cells store outside → Belongs heap v → IsOut (leaving store (meaning name v)) place left

-- ---- a call that ended

-- the actor after it shows this: it goes on, or its calls wait
abbrev pub LeftAs : Image → Heap → (number : ℕ) → List Home → List Frame → Leaving → List l.Home → Shown → Type 0
LeftAs image heap number own frames way.Went homes shown = ShownAs image heap (working number own frames) o.Went homes shown
LeftAs image heap number own frames (way.Returned value) homes shown = ShownAs image heap (waiting number own frames) (o.Returned value) homes shown
LeftAs image heap number own frames (way.TooBig place) homes shown = ShownAs image heap (waiting number own frames) (o.TooBig place) homes shown
LeftAs image heap number own frames (way.Raises error) homes shown = ⊥

-- as whatever machine the calls are seen, while the value is held beside what they hold, the innermost one left with it
pub record Departs (v : Value) (line : ℕ) (old : Heap) (before : List Frame) (new : Heap) (after : List Frame) (left : Leaving) : Type 0 where
  pub no_error : IsNoError left
  pub is_left : (image : Image) (number : ℕ) (own : List Home) (name : Naming) (homes : List l.Home) (frame : mm.Frame) (below : List mm.Suspended) (store : Store)
      → Stands name old.cells store (λ k. home_references k own + (occurrence k v + call_references k before)) → homes ≡ map (home_meaning name) own → MachineIs image name Works before (mm.Works frame below)
      → LeftAs image new number own after left homes (leave frame.kind (meaning name v) (place_at frame.function line) below store)
