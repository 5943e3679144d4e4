-- How the running machine of an actor is seen as the machine of the meaning: its values by the naming of its heap, its functions by their
-- numbers.
use Rattle.std.specs.Prelude.{◌≡◌, ℕ, ◌+◌, List, [], ◌∷◌, map, Some}
use Rattle.std.specs.Option.{option_map}
use Rattle.heap_meaning.specs.Values.{Value}
use Rattle.heap_meaning.specs.Store.{Store}
use Rattle.heap_meaning.specs.Cells.{occurrence}
use Rattle.heap_meaning.specs.Stands.{Naming, Outside, meaning, Stands}
use Rattle.heap_meaning.specs.Heap.{Heap}
use Rattle.brs_code.specs.declared.function.Function.{Function}
use Rattle.brs_meaning.specs.Locals as l
use Rattle.brs_meaning.specs.Running as r
use Rattle.machine_meaning.specs.Image.{Image, function_at}
use Rattle.machine_meaning.specs.Frame as mm
use Rattle.frame_stack.specs.declared.header.CallKind.{CallKind}
use Rattle.frame_stack.specs.declared.header.CallKind.TheVariants as k
use Rattle.frame_stack.specs.declared.header.Landing.{Landing}
use Rattle.frame_stack.specs.declared.header.Landing.TheVariants as d
use Rattle.frame_stack.specs.Operand.{Operand, Holds, Items, Keys}
use Rattle.frame_stack.specs.Frame.{Slots, Frame}
use Rattle.call_release.specs.References.{call_references}
use Rattle.actor_meaning.specs.declared.phase.Phase.{Phase}
use Rattle.actor_meaning.specs.declared.phase.Phase.TheVariants.{Works, Waits, Fails}

-- ---- a call

abbrev pub operand_meaning : Naming → Operand → mm.Operand
operand_meaning name (Holds v) = mm.Holds (meaning name v)
operand_meaning name (Items array next) = mm.Items (meaning name array) next
operand_meaning name (Keys keys) = mm.Keys keys

abbrev pub slots_meaning : Naming → Slots → mm.Slots
slots_meaning name slots = map (option_map (meaning name)) slots

abbrev pub kind_meaning : CallKind → r.Kind
kind_meaning k.Inner = r.Inner
kind_meaning k.OnTop = r.OnTop

abbrev pub landing_meaning : Landing → mm.Landing
landing_meaning d.Operands = mm.OnOperands
landing_meaning d.Nowhere = mm.Nowhere

-- the call that a frame is where its function is this one
abbrev pub frame_meaning : Naming → Function → Frame → mm.Frame
frame_meaning name f x = record {
  kind = kind_meaning x.head.kind;
  function = f;
  home = x.head.home;
  m = meaning name x.m;
  place = x.head.place;
  operands = map (operand_meaning name) x.operands;
  slots = slots_meaning name x.slots;
}

-- a frame is seen as this call
pub record FrameIs (image : Image) (name : Naming) (x : Frame) (frame : mm.Frame) : Type 0 where
  pub function : function_at image x.head.function ≡ Some frame.function
  pub path : x.head.path ≡ frame.function.path
  pub is : frame ≡ frame_meaning name frame.function x

-- a frame is seen as this call that waits for a value
pub record SuspendedIs (image : Image) (name : Naming) (x : Frame) (h : mm.Suspended) : Type 0 where
  pub frame : FrameIs image name x h.frame
  pub line : h.line ≡ x.head.line
  pub landing : h.landing ≡ landing_meaning x.head.landing

-- ---- all calls

abbrev pub SuspendedAre : Image → Naming → List Frame → List mm.Suspended → Type 0
SuspendedAre image name [] [] = Unit {0}
SuspendedAre image name (x ∷ frames) (h ∷ below) = SuspendedIs image name x h × SuspendedAre image name frames below
SuspendedAre image name _ _ = ⊥

abbrev pub MachineIs : Image → Naming → Phase → List Frame → mm.Machine → Type 0
MachineIs image name Works (x ∷ frames) (mm.Works frame below) = FrameIs image name x frame × SuspendedAre image name frames below
MachineIs image name Waits frames (mm.Waits below) = SuspendedAre image name frames below
MachineIs image name (Fails e) (x ∷ frames) (mm.Fails e' h below) = (e ≡ e') × SuspendedIs image name x h × SuspendedAre image name frames below
MachineIs image name _ _ _ = ⊥

-- ---- an actor

-- a home: the number of its scope, and its `m`
pub record Home : Type 0 where
  pub scope : ℕ
  pub m : Value

-- an actor: its number, its homes, what its calls are about to do, and its calls
pub record Actor : Type 0 where
  pub number : ℕ
  pub homes : List Home
  pub phase : Phase
  pub frames : List Frame

abbrev pub home_meaning : Naming → Home → l.Home
home_meaning name h = record { scope = h.scope; m = meaning name h.m }

-- ---- what an actor holds

-- how often the homes name cell k
abbrev pub home_references : ℕ → List Home → ℕ
home_references k [] = 0
home_references k (h ∷ homes) = occurrence k h.m + home_references k homes

-- the references that it holds are those that are out of its heap
abbrev pub held : Actor → Outside
held a k = home_references k a.homes + call_references k a.frames

-- ---- an actor with its heap

-- by this naming they are seen as these homes, this machine and this store
pub record ActorIs (image : Image) (name : Naming) (heap : Heap) (a : Actor) (homes : List l.Home) (machine : mm.Machine) (store : Store) : Type 0 where
  pub stands : Stands name heap.cells store (held a)
  pub homes_are : homes ≡ map (home_meaning name) a.homes
  pub machine_is : MachineIs image name a.phase a.frames machine
