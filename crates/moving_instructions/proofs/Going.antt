-- An instruction that goes on in the innermost call, and moves no value but its own.
use Rattle.std.proofs.Common.{◌≡◌, ℕ, ◌+◌, ◌<◌, ◌^◌, List, [], ◌∷◌, ◌++◌, length, take, drop, Some, Result, Ok, Err, refl, sym, ap, ◌∙◌, subst, arith}
use Rattle.std.specs.Prelude.{IfSome, IfOk, OnOk}
use Rattle.heap_meaning.specs.Store.{Store}
use Rattle.heap_meaning.specs.Stands.{Naming}
use Rattle.heap_meaning.specs.Heap.{Heap}
use Rattle.heap_meaning.proofs.Steps.{stands_same}
use Rattle.brs_code.specs.declared.instr.Instr.{Instr}
use Rattle.brs_code.specs.Instruction.{pops}
use Rattle.brs_meaning.specs.Locals as l
use Rattle.machine_meaning.specs.Image.{Image}
use Rattle.machine_meaning.specs.Frame as mm
use Rattle.machine_meaning.specs.Acted.{Goes}
use Rattle.machine_meaning.specs.Instructions.{acted}
use Rattle.machine_meaning.specs.Stepping.{setting_of}
use Rattle.frame_stack.specs.declared.header.CallHead.{CallHead}
use Rattle.frame_stack.specs.Frame.{Frame, innermost, operands_of, slots_of, changed}
use Rattle.call_release.specs.References.{call_references}
use Rattle.frame_actions.specs.Actions.{at_place, Carries}
use Rattle.frame_actions.proofs.Moving.{place_holds}
use Rattle.actor_meaning.specs.declared.outcome.Outcome.TheVariants.{Went}
use Rattle.actor_meaning.specs.View.{home_references, FrameIs}
use Rattle.actor_meaning.specs.Performed.{working, Performed}
use Rattle.actor_meaning.proofs.Moves.{went}
use Rattle.moving_instructions.specs.Behind.{IsBehind, HasPlaceBehind}

-- ---- what an instruction does to a frame, as whatever call it is seen

pub record Going (instr : Instr) (y : Frame) (image : Image) (number : ℕ) (name : Naming) (homes : List l.Home) (frame : mm.Frame) (store : Store) : Type 0 where
  pub slots : mm.Slots
  pub back : List mm.Operand
  pub to : ℕ
  pub acts : acted (setting_of image number homes frame) instr (take (pops instr) frame.operands) store ≡ Goes slots store back to
  pub seen : FrameIs image name y (record frame { place = to; operands = back ++ drop (pops instr) frame.operands; slots = slots })

-- what is seen as the frame x before is seen as the frame y after it
abbrev pub GoesOn : Instr → (x y : Frame) → Type 0
GoesOn instr x y =
    (image : Image) (number : ℕ) (name : Naming) (homes : List l.Home) (frame : mm.Frame) (store : Store) → FrameIs image name x frame → Going instr y image number name homes frame store

at_work : (old new : Heap) (x y : Frame) (below : List Frame) (instr : Instr) → GoesOn instr x y → Carries old (x ∷ below) new (y ∷ below) → Performed old (x ∷ below) new (y ∷ below) Went instr
at_work old new x y below instr goes carries = λ image number own line operands name homes frame waiting store is.
    let g : Going instr y image number name homes frame store = goes image number name homes frame store is.machine_is.0 in
    went image new (working number own (y ∷ below)) homes frame line (drop (pops instr) frame.operands) waiting store store
    (acted (setting_of image number homes frame) instr (take (pops instr) frame.operands) store)
    g.slots g.back g.to g.acts (record {
      naming = name;
      is = record {
        stands = carries name store (λ k. home_references k own) is.stands;
        homes_are = is.homes_are;
        machine_is = (g.seen, is.machine_is.1);
      };
    })

-- the innermost call changes in this way, and the instruction does the same to what it is seen as
pub performs : (old new : Heap) (before after : List Frame) (change : Frame → Frame) (instr : Instr) → 0 < length before → ((x : Frame) → innermost before ≡ Some x → GoesOn instr x (change x)) → Carries old before new after
    → after ≡ changed change before → Performed old before new after Went instr
performs old new [] after change instr there goes carries e = absurd (omega arith)
performs old new (x ∷ below) after change instr there goes carries e =
    subst (λ a. Performed old (x ∷ below) new a Went instr) (sym e) (at_work old new x (change x) below instr (goes x refl) (subst (λ a. Carries old (x ∷ below) new a) e carries))

-- ---- the innermost call, and the place behind

pub behind_of : (frames : List Frame) (x : Frame) (to : ℕ) → IsBehind frames to → innermost frames ≡ Some x → to ≡ x.head.place + 1
behind_of frames x to b e = subst (λ o. IfSome o (λ (y : Frame). to ≡ y.head.place + 1)) e b

pub operands_in : (frames : List Frame) (x : Frame) → innermost frames ≡ Some x → operands_of frames ≡ x.operands
operands_in [] x e = absurd cc
operands_in (y ∷ below) x e = let q : y ≡ x = cc in ap (λ (z : Frame). z.operands) q

pub slots_in : (frames : List Frame) (x : Frame) → innermost frames ≡ Some x → slots_of frames ≡ x.slots
slots_in [] x e = absurd cc
slots_in (y ∷ below) x e = let q : y ≡ x = cc in ap (λ (z : Frame). z.slots) q

pub place_fits : (frames : List Frame) (head : CallHead) → 0 < length frames → IfSome (innermost frames) (λ x. head ≡ x.head) → HasPlaceBehind frames → head.place + 1 < 2 ^ 64
place_fits [] head there e fits = absurd (omega arith)
place_fits (x ∷ below) head there e fits = subst (λ (h : CallHead). h.place + 1 < 2 ^ 64) (sym e) fits

pub is_behind : (frames : List Frame) (head : CallHead) → IfSome (innermost frames) (λ x. head ≡ x.head) → IsBehind frames (head.place + 1)
is_behind [] head e = tt
is_behind (x ∷ below) head e = ap (λ (h : CallHead). h.place + 1) e

-- ---- what the heap counts

pub carries_same : (heap : Heap) (before after : List Frame) → ((k : ℕ) → call_references k after ≡ call_references k before) → Carries heap before heap after
carries_same heap before after same = λ name store others s.
    stands_same name heap.cells store (λ k. others k + call_references k before) (λ k. others k + call_references k after) s (λ k. let y = same k in omega arith)

pub carries_place : (heap : Heap) (before after : List Frame) (to : ℕ) → after ≡ changed (at_place to) before → Carries heap before heap after
carries_place heap before after to e = carries_same heap before after (λ k. ap (call_references k) e ∙ place_holds k to before)

pub carries_both : (old mid new : Heap) (before middle after : List Frame) → Carries old before mid middle → Carries mid middle new after → Carries old before new after
carries_both old mid new before middle after first_part second_part = λ name store others s. second_part name store others (first_part name store others s)

-- ---- answers with and without memory

pub on_ok_both : {A E : Type 0} (r : Result A E) (P Q R : Type 0) → (P → Q → R) → OnOk r P → OnOk r Q → OnOk r R
on_ok_both (Ok a) P Q R f p q = f p q
on_ok_both (Err e) P Q R f p q = tt

pub if_ok_then : {A E : Type 0} (r : Result A E) (P Q : A → Type 0) → ((a : A) → P a → Q a) → IfOk r P → IfOk r Q
if_ok_then (Ok a) P Q f p = f a p
if_ok_then (Err e) P Q f p = tt
