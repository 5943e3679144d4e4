-- Values that land, and open wants.
use Rattle.std.proofs.Common.{◌≡◌, ℕ, ◌+◌, ◌<◌, List, [], ◌∷◌, length, refl, ap, ◌∙◌, arith}
use Rattle.chan_values.specs.declared.access.Access.{Access}
use Rattle.heap_meaning.specs.Values.{Value}
use Rattle.heap_meaning.specs.Cells.{occurrence}
use Rattle.heap_meaning.specs.Heap.{Heap, Moves, no_references, references_of}
use Rattle.heap_meaning.proofs.Steps.{stands_same}
use Rattle.object_operations.specs.declared.applied.Applied.TheVariants as a
use Rattle.frame_stack.specs.declared.header.CallHead.{CallHead}
use Rattle.frame_stack.specs.declared.header.Landing.{Landing}
use Rattle.frame_stack.specs.declared.header.Landing.TheVariants as d
use Rattle.frame_stack.specs.Frame.{Frame, innermost, changed, with_head}
use Rattle.std.specs.Prelude.{IfSome}
use Rattle.call_release.specs.References.{call_references}
use Rattle.frame_actions.specs.Actions.{dropped, pushed, Carries}
use Rattle.frame_actions.proofs.Holding.{pushed_holds}
use Rattle.actor_meaning.specs.declared.outcome.Request.TheVariants as s
use Rattle.instruction_effects.specs.declared.effect.Effect.TheVariants as e
use Rattle.moving_instructions.specs.Behind.{IsBehind}
use Rattle.member_accesses.specs.declared.reached.Reached.TheVariants as r
use Rattle.member_instructions.specs.Settling.{landed, head_waits, waits, TakesIn, Settles}

-- ---- a value lands

pub lands_nowhere : (v : Value) (to : ℕ) (frames : List Frame) → frames ≡ changed (landed d.Nowhere v to) frames
lands_nowhere v to [] = refl
lands_nowhere v to (x ∷ below) = refl

pub takes_pushed : (heap : Heap) (before after : List Frame) (v : Value) (to : ℕ) → 0 < length before → after ≡ changed (pushed v to) before → TakesIn v heap before heap after
takes_pushed heap before after v to there e = λ name store others s.
    stands_same name heap.cells store (λ k. occurrence k v + (others k + call_references k before)) (λ k. others k + call_references k after) s
    (λ k. let x = pushed_holds k v to before there in let y : call_references k after ≡ call_references k (changed (pushed v to) before) = ap (call_references k) e in omega arith)

pub takes_released : (old new : Heap) (frames : List Frame) (v : Value) → Moves old new (references_of v) no_references → TakesIn v old frames new frames
takes_released old new frames v moves = λ name store others s.
    moves name store (λ k. occurrence k v + (others k + call_references k frames)) (λ k. others k + call_references k frames) s (λ k. omega arith)

takes_both : (old mid new : Heap) (before middle after : List Frame) (v : Value) → Carries old before mid middle → TakesIn v mid middle new after → TakesIn v old before new after
takes_both old mid new before middle after v carries takes = λ name store others s.
    takes name store others
    (stands_same name mid.cells store (λ k. (occurrence k v + others k) + call_references k middle) (λ k. occurrence k v + (others k + call_references k middle))
    (carries name store (λ k. occurrence k v + others k)
    (stands_same name old.cells store (λ k. occurrence k v + (others k + call_references k before)) (λ k. (occurrence k v + others k) + call_references k before) s (λ k. omega arith)))
    (λ k. omega arith))

pub value_settled : (landing : Landing) (line n next : ℕ) (v : Value) (old mid new : Heap) (before middle after : List Frame) → 0 < length before → IsBehind before next → Carries old before mid middle → middle ≡ changed (dropped n next) before
    → after ≡ changed (landed landing v next) middle → TakesIn v mid middle new after → Settles landing line n (r.Done (a.Value v)) e.Went old before new after
value_settled landing line n next v old mid new [] middle after there behind carries fewer lands takes = absurd (omega arith)
value_settled landing line n next v old mid new (x ∷ below) middle after there behind carries fewer lands takes = (
  lands ∙ ap (changed (landed landing v next)) fewer ∙ ap (λ p. landed landing v p (dropped n p x) ∷ below) behind,
  takes_both old mid new (x ∷ below) middle after v carries takes,
)

-- ---- a value is awaited

pub waiting_head : (landing : Landing) (line : ℕ) (head : CallHead) (frames after : List Frame) → IfSome (innermost frames) (λ frame. head ≡ frame.head) → after ≡ changed (with_head (head_waits landing line head)) frames → after ≡ changed (waits landing line) frames
waiting_head landing line head [] after i e = e
waiting_head landing line head (x ∷ below) after i e = e ∙ ap (λ h. with_head (head_waits landing line h) x ∷ below) i

waiting_holds : (k : ℕ) (landing : Landing) (line : ℕ) (frames : List Frame) → call_references k (changed (waits landing line) frames) ≡ call_references k frames
waiting_holds k landing line [] = refl
waiting_holds k landing line (x ∷ below) = refl

carries_waiting : (old mid : Heap) (before middle after : List Frame) (landing : Landing) (line : ℕ) → Carries old before mid middle → after ≡ changed (waits landing line) middle → Carries old before mid after
carries_waiting old mid before middle after landing line carries e = λ name store others s.
    stands_same name mid.cells store (λ k. others k + call_references k middle) (λ k. others k + call_references k after) (carries name store others s)
    (λ k. let x = waiting_holds k landing line middle in let y : call_references k after ≡ call_references k (changed (waits landing line) middle) = ap (call_references k) e in omega arith)

pub want_settled : (landing : Landing) (line n next : ℕ) (access : Access) (old mid : Heap) (before middle after : List Frame) → 0 < length before → IsBehind before next → Carries old before mid middle → middle ≡ changed (dropped n next) before
    → after ≡ changed (waits landing line) middle → Settles landing line n (r.Asks access) (e.Asks (s.Access access)) old before mid after
want_settled landing line n next access old mid [] middle after there behind carries fewer waiting = absurd (omega arith)
want_settled landing line n next access old mid (x ∷ below) middle after there behind carries fewer waiting = (
  refl,
  waiting ∙ ap (changed (waits landing line)) fewer ∙ ap (λ p. waits landing line (dropped n p x) ∷ below) behind,
  carries_waiting old mid (x ∷ below) middle after landing line carries waiting,
)
