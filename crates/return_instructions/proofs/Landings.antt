-- A value that a call waited for: what the heap counts, and what the call is seen as.
use Rattle.std.proofs.Common.{◌≡◌, ℕ, ◌+◌, ◌<◌, List, [], ◌∷◌, length, refl, sym, ap, ◌∙◌, subst, arith}
use Rattle.std.specs.Prelude.{IfSome}
use Rattle.heap_meaning.specs.Values.{Value}
use Rattle.heap_meaning.specs.Cells.{occurrence}
use Rattle.heap_meaning.specs.Stands.{Naming, meaning}
use Rattle.heap_meaning.specs.Heap.{Heap, Moves, no_references, references_of}
use Rattle.heap_meaning.proofs.Steps.{stands_same}
use Rattle.machine_meaning.specs.Image.{Image}
use Rattle.machine_meaning.specs.Frame as mm
use Rattle.machine_meaning.specs.Stepping as s
use Rattle.frame_stack.specs.declared.header.CallHead.{CallHead}
use Rattle.frame_stack.specs.declared.header.Landing.{Landing}
use Rattle.frame_stack.specs.declared.header.Landing.TheVariants as d
use Rattle.frame_stack.specs.Operand.{Holds}
use Rattle.frame_stack.specs.Frame.{Frame, with_operand, innermost, changed}
use Rattle.call_release.specs.References.{call_references}
use Rattle.actor_meaning.specs.View.{landing_meaning, FrameIs, SuspendedIs}
use Rattle.actor_meaning.proofs.Moves.{operand_more}
use Rattle.return_instructions.specs.Landed.{landed, Lands, Settles}

pub lands_as : (v : Value) (before after : List Frame) (head : CallHead) (landing : Landing) → IfSome (innermost before) (λ x. head ≡ x.head) → head.landing ≡ landing → after ≡ changed (landed landing v) before → Lands v before after
lands_as v [] after head landing is to e = tt
lands_as v (x ∷ below) after head landing is to e = e ∙ ap (λ (l : Landing). landed l v x ∷ below) (sym to ∙ ap (λ (h : CallHead). h.landing) is)

pub stays : (v : Value) (frames : List Frame) → frames ≡ changed (landed d.Nowhere v) frames
stays v [] = refl
stays v (x ∷ below) = refl

operand_counted : (k : ℕ) (v : Value) (frames : List Frame) → 0 < length frames → call_references k (changed (with_operand (Holds v)) frames) ≡ occurrence k v + call_references k frames
operand_counted k v [] there = absurd (omega arith)
operand_counted k v (x ∷ below) there = omega arith

pub settles_pushed : (heap : Heap) (v : Value) (before after : List Frame) → 0 < length before → after ≡ changed (with_operand (Holds v)) before → Settles v heap before heap after
settles_pushed heap v before after there e = λ name store others s.
    stands_same name heap.cells store (λ k. others k + (occurrence k v + call_references k before)) (λ k. others k + call_references k after) s
    (λ k. let a = operand_counted k v before there in let b : call_references k after ≡ call_references k (changed (with_operand (Holds v)) before) = ap (call_references k) e in omega arith)

pub settles_released : (old new : Heap) (v : Value) (frames : List Frame) → Moves old new (references_of v) no_references → Settles v old frames new frames
settles_released old new v frames moves = λ name store others s.
    moves name store (λ k. others k + (occurrence k v + call_references k frames)) (λ k. others k + call_references k frames) s (λ k. omega arith)

-- the call that waited is seen as the one that the value has reached
pub landed_seen : (image : Image) (name : Naming) (x : Frame) (h : mm.Suspended) (v : Value) → SuspendedIs image name x h → FrameIs image name (landed x.head.landing v x) (s.landed (meaning name v) h.landing h.frame)
landed_seen image name x h v is = subst (λ l. FrameIs image name (landed x.head.landing v x) (s.landed (meaning name v) l h.frame)) (sym is.landing) (go x.head.landing)
  where
    go : (l : Landing) → FrameIs image name (landed l v x) (s.landed (meaning name v) (landing_meaning l) h.frame)
    go d.Operands = operand_more image name x h.frame (Holds v) is.frame
    go d.Nowhere = is.frame
