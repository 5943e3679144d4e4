-- By a naming that agrees with an earlier one on all that an actor holds, the actor is seen as the same machine.
use Rattle.std.proofs.Common.{◌≡◌, ℕ, ◌≤◌, List, [], ◌∷◌, map, Some, None, refl, sym, ap, ◌∙◌, arith}
use Rattle.heap_meaning.specs.Values.{Value, Direct, Cell, StoreValue}
use Rattle.heap_meaning.specs.Store.{Store}
use Rattle.heap_meaning.specs.Cells.{occurrence}
use Rattle.heap_meaning.specs.Stands.{Naming, Outside, meaning, Stands, Agrees}
use Rattle.heap_meaning.specs.Heap.{Heap}
use Rattle.heap_meaning.proofs.Counts.{occurrence_self}
use Rattle.brs_code.specs.declared.function.Function.{Function}
use Rattle.brs_meaning.specs.Locals as l
use Rattle.machine_meaning.specs.Image.{Image}
use Rattle.machine_meaning.specs.Frame as mm
use Rattle.frame_stack.specs.declared.header.CallHead.{CallHead}
use Rattle.frame_stack.specs.Operand.{Operand, Holds, Items, Keys}
use Rattle.frame_stack.specs.Frame.{Slots, Frame}
use Rattle.call_release.specs.References.{operand_references, all_operand_references, slot_references, frame_references, call_references}
use Rattle.actor_meaning.specs.declared.phase.Phase.{Phase}
use Rattle.actor_meaning.specs.declared.phase.Phase.TheVariants.{Works, Waits, Fails}
use Rattle.actor_meaning.specs.View.{operand_meaning, slots_meaning, kind_meaning, frame_meaning, FrameIs, SuspendedIs, SuspendedAre, MachineIs, Home, Actor, home_meaning, home_references, held, ActorIs}

-- so many references at most are out
abbrev Within : (ℕ → ℕ) → Outside → Type 0
Within references outside = (k : ℕ) → references k ≤ outside k

abbrev framed : Function → CallHead → StoreValue → List mm.Operand → mm.Slots → mm.Frame
framed f head v ops slots = record { kind = kind_meaning head.kind; function = f; home = head.home; m = v; place = head.place; operands = ops; slots = slots }

abbrev home_with : (scope : ℕ) → StoreValue → l.Home
home_with scope m = record { scope = scope; m = m }

module _ (name name' : Naming) (outside : Outside) (agrees : Agrees name name' outside) where
  pub value_agrees : (v : Value) → Within (λ k. occurrence k v) outside → meaning name' v ≡ meaning name v
  value_agrees (Direct p) h = refl
  value_agrees (Cell j) h = agrees j (let s = occurrence_self j in let x : occurrence j (Cell j) ≤ outside j = h j in omega arith)

  operand_agrees : (x : Operand) → Within (λ k. operand_references k x) outside → operand_meaning name' x ≡ operand_meaning name x
  operand_agrees (Holds v) h = ap mm.Holds (value_agrees v h)
  operand_agrees (Items array next) h = ap (λ w. mm.Items w next) (value_agrees array h)
  operand_agrees (Keys keys) h = refl

  pub operands_agree : (ops : List Operand) → Within (λ k. all_operand_references k ops) outside → map (operand_meaning name') ops ≡ map (operand_meaning name) ops
  operands_agree [] h = refl
  operands_agree (x ∷ ops) h =
      ap (λ w. w ∷ map (operand_meaning name') ops) (operand_agrees x (λ k. let y = h k in omega arith))
      ∙ ap (λ w. operand_meaning name x ∷ w) (operands_agree ops (λ k. let y = h k in omega arith))

  pub slots_agree : (slots : Slots) → Within (λ k. slot_references k slots) outside → slots_meaning name' slots ≡ slots_meaning name slots
  slots_agree [] h = refl
  slots_agree (None ∷ slots) h = ap (λ w. None ∷ w) (slots_agree slots h)
  slots_agree (Some v ∷ slots) h =
      ap (λ w. Some w ∷ slots_meaning name' slots) (value_agrees v (λ k. let y = h k in omega arith))
      ∙ ap (λ w. Some (meaning name v) ∷ w) (slots_agree slots (λ k. let y = h k in omega arith))

  pub frame_agrees : (f : Function) (x : Frame) → Within (λ k. frame_references k x) outside → frame_meaning name' f x ≡ frame_meaning name f x
  frame_agrees f x h =
      ap (λ w. framed f x.head w (map (operand_meaning name') x.operands) (slots_meaning name' x.slots)) (value_agrees x.m (λ k. let y = h k in omega arith))
      ∙ ap (λ w. framed f x.head (meaning name x.m) w (slots_meaning name' x.slots)) (operands_agree x.operands (λ k. let y = h k in omega arith))
      ∙ ap (λ w. framed f x.head (meaning name x.m) (map (operand_meaning name) x.operands) w) (slots_agree x.slots (λ k. let y = h k in omega arith))

  pub frame_same : (image : Image) (x : Frame) (frame : mm.Frame) → Within (λ k. frame_references k x) outside → FrameIs image name x frame → FrameIs image name' x frame
  frame_same image x frame h i = record { function = i.function; path = i.path; is = i.is ∙ sym (frame_agrees frame.function x h) }

  suspended_same : (image : Image) (x : Frame) (s : mm.Suspended) → Within (λ k. frame_references k x) outside → SuspendedIs image name x s → SuspendedIs image name' x s
  suspended_same image x s h i = record { frame = frame_same image x s.frame h i.frame; line = i.line; landing = i.landing }

  pub calls_same : (image : Image) (frames : List Frame) (below : List mm.Suspended) → Within (λ k. call_references k frames) outside → SuspendedAre image name frames below → SuspendedAre image name' frames below
  calls_same image [] [] h i = tt
  calls_same image [] (s ∷ below) h i = absurd i
  calls_same image (x ∷ frames) [] h i = absurd i
  calls_same image (x ∷ frames) (s ∷ below) h i =
      (suspended_same image x s (λ k. let y = h k in omega arith) i.0, calls_same image frames below (λ k. let y = h k in omega arith) i.1)

  pub machine_same : (image : Image) (phase : Phase) (frames : List Frame) (machine : mm.Machine) → Within (λ k. call_references k frames) outside → MachineIs image name phase frames machine → MachineIs image name' phase frames machine
  machine_same image Works (x ∷ frames) (mm.Works frame below) h i =
      (frame_same image x frame (λ k. let y = h k in omega arith) i.0, calls_same image frames below (λ k. let y = h k in omega arith) i.1)
  machine_same image Waits frames (mm.Waits below) h i = calls_same image frames below h i
  machine_same image (Fails e) (x ∷ frames) (mm.Fails e' s below) h i =
      (i.0, suspended_same image x s (λ k. let y = h k in omega arith) i.1, calls_same image frames below (λ k. let y = h k in omega arith) i.2)
  machine_same image Works [] machine h i = absurd i
  machine_same image Works (x ∷ frames) (mm.Waits below) h i = absurd i
  machine_same image Works (x ∷ frames) (mm.Fails e s below) h i = absurd i
  machine_same image Waits frames (mm.Works frame below) h i = absurd i
  machine_same image Waits frames (mm.Fails e s below) h i = absurd i
  machine_same image (Fails e) [] machine h i = absurd i
  machine_same image (Fails e) (x ∷ frames) (mm.Works frame below) h i = absurd i
  machine_same image (Fails e) (x ∷ frames) (mm.Waits below) h i = absurd i

  pub homes_agree : (homes : List Home) → Within (λ k. home_references k homes) outside → map (home_meaning name') homes ≡ map (home_meaning name) homes
  homes_agree [] h = refl
  homes_agree (x ∷ homes) h =
      ap (λ w. home_with x.scope w ∷ map (home_meaning name') homes) (value_agrees x.m (λ k. let y = h k in omega arith))
      ∙ ap (λ w. home_meaning name x ∷ w) (homes_agree homes (λ k. let y = h k in omega arith))

-- the heap and its store may have changed, where the actor holds the same
pub renamed : (image : Image) (name name' : Naming) (heap heap' : Heap) (a : Actor) (homes : List l.Home) (machine : mm.Machine) (store store' : Store)
    → ActorIs image name heap a homes machine store → Agrees name name' (held a) → Stands name' heap'.cells store' (held a) → ActorIs image name' heap' a homes machine store'
renamed image name name' heap heap' a homes machine store store' is agrees stands = record {
  stands = stands;
  homes_are = is.homes_are ∙ sym (homes_agree name name' (held a) agrees a.homes (λ k. omega arith));
  machine_is = machine_same name name' (held a) agrees image a.phase a.frames machine (λ k. omega arith) is.machine_is;
}
