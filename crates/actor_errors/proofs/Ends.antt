-- Calls that end by an error.
use Rattle.std.proofs.Common.{◌≡◌, ℕ, ◌+◌, List, [], ◌∷◌, drop, Some, None, refl, sym, ap, ◌∙◌, subst, arith}
use Rattle.std.specs.Prelude.{IfSome}
use Rattle.chan_values.specs.declared.error_code.ErrorCode.{ErrorCode}
use Rattle.chan_values.specs.declared.place.Place.{Place}
use Rattle.heap_meaning.specs.Store.{Store}
use Rattle.heap_meaning.specs.Stands.{Naming}
use Rattle.heap_meaning.specs.Heap.{Heap, Moves, no_references}
use Rattle.brs_code.specs.declared.function.Function.{Function}
use Rattle.brs_code.specs.Instruction.{pops}
use Rattle.brs_meaning.specs.Locals as l
use Rattle.brs_meaning.specs.Reduction as r
use Rattle.machine_meaning.specs.Image.{Image, place_at}
use Rattle.machine_meaning.specs.Frame as mm
use Rattle.machine_meaning.specs.Stepping.{carried}
use Rattle.frame_stack.specs.declared.header.CallHead.{CallHead}
use Rattle.frame_stack.specs.Frame.{Frame, innermost}
use Rattle.call_release.specs.References.{call_references}
use Rattle.frame_actions.specs.Actions.{Carries}
use Rattle.actor_meaning.specs.declared.outcome.Outcome.{Outcome}
use Rattle.actor_meaning.specs.declared.outcome.Outcome.TheVariants.{Raised}
use Rattle.actor_meaning.specs.declared.phase.Phase.TheVariants.{Works}
use Rattle.actor_meaning.specs.View.{Home, Actor, home_references, MachineIs, ActorIs}
use Rattle.actor_meaning.specs.Showing.{OutcomeIs}
use Rattle.actor_meaning.specs.Promises.{SeenAs, Stepped}
use Rattle.actor_meaning.specs.Performing.{ShownAs}
use Rattle.actor_meaning.specs.Performed.{working}
use Rattle.actor_errors.specs.Raising.{idle, failing, place_of, path_of, Ended, IsStep, RaisesHandedBack}

pub carries_end : (old new : Heap) (before after : List Frame) → Moves old new (λ k. call_references k before) no_references → after ≡ [] → Carries old before new after
carries_end old new before after moves gone = λ name store others s.
    moves name store (λ k. others k + call_references k before) (λ k. others k + call_references k after) s
    (λ k. let y : call_references k after ≡ 0 = ap (call_references k) gone in omega arith)

pub told_at : (before : List Frame) (error : ErrorCode) (head : CallHead) (line : ℕ) → IfSome (innermost before) (λ x. head ≡ x.head) → IfSome (innermost before) (λ x. Raised error (place_of head line) ≡ Raised error (place_of x.head line))
told_at [] error head line e = tt
told_at (x ∷ below) error head line e = ap (λ (h : CallHead). Raised error (place_of h line)) e

-- the actor is seen as a machine that is idle, with the same homes and store
seen_idle : (image : Image) (name : Naming) (homes : List l.Home) (old new : Heap) (a : Actor) (after : List Frame) (machine : mm.Machine) (store : Store) → ActorIs image name old a homes machine store → after ≡ [] → Carries old a.frames new after
    → SeenAs image new (idle a.number a.homes) homes (mm.Waits []) store
seen_idle image name homes old new a after machine store is gone carries =
    let ends : Carries old a.frames new [] = subst (λ frames. Carries old a.frames new frames) gone carries in
    record {
      naming = name;
      is = record { stands = ends name store (λ k. home_references k a.homes) is.stands; homes_are = is.homes_are; machine_is = tt };
    }

-- ---- what is told

abbrev at_path : (path line : ℕ) → Place
at_path path line = record { path = path; line = line }

told_as : (error error' : ErrorCode) (path line line' : ℕ) (f : Function) (shown : Outcome) → shown ≡ Raised error (at_path path line) → error ≡ error' → path ≡ f.path → line ≡ line' → OutcomeIs shown (r.Raised error' (place_at f line'))
told_as error error' path line line' f shown told e p at =
    subst (λ s. OutcomeIs s (r.Raised error' (place_at f line'))) (sym told) (e, ap (λ q. at_path q line) p ∙ ap (at_path f.path) at)

told_seen : (image : Image) (name : Naming) (before middle : List Frame) (frame : mm.Frame) (waiting : List mm.Suspended) (error : ErrorCode) (line : ℕ) (shown : Outcome) → MachineIs image name Works before (mm.Works frame waiting) → path_of before ≡ path_of middle
    → IfSome (innermost middle) (λ y. shown ≡ Raised error (place_of y.head line)) → OutcomeIs shown (r.Raised error (place_at frame.function line))
told_seen image name [] middle frame waiting error line shown m same told = absurd m
told_seen image name (x ∷ below) [] frame waiting error line shown m same told = let s : Some x.head.path ≡ None = same in absurd cc
told_seen image name (x ∷ below) (y ∷ others) frame waiting error line shown m same told =
    let s : Some x.head.path ≡ Some y.head.path = same in
    let q : y.head.path ≡ x.head.path = cc in
    told_as error error y.head.path line line frame.function shown told refl (q ∙ m.0.path) refl

-- ---- an error at an instruction

pub ends_step : (error : ErrorCode) (line : ℕ) (mid new : Heap) (middle after : List Frame) (shown : Outcome) → Ended error line mid middle new after shown → IsStep error line mid middle new shown
ends_step error line mid new middle after shown ended = λ old before instr image number own operands faulted same carries name homes frame waiting store is.
    let whole : Carries old before new after = λ other_name other_store others s. ended.carries other_name other_store others (carries other_name other_store others s) in
    subst (λ a. ShownAs image new (idle number own) shown homes (carried a homes frame line (drop (pops instr) frame.operands) waiting store)) (sym (faulted name homes frame waiting store is)) (
      told_seen image name before middle frame waiting error line shown is.machine_is same ended.told,
      seen_idle image name homes old new (working number own before) after (mm.Works frame waiting) store is ended.frames whole,
    )

-- ---- an error that was handed back

handed_step : (image : Image) (name : Naming) (number : ℕ) (own : List Home) (homes : List l.Home) (error : ErrorCode) (line : ℕ) (old new : Heap) (before after : List Frame) (machine : mm.Machine) (store : Store) (shown : Outcome)
    → ActorIs image name old (failing number own error before) homes machine store → IfSome (innermost before) (λ x. line ≡ x.head.line) → Ended error line old before new after shown → Stepped image new (idle number own) shown homes machine store
handed_step image name number own homes error line old new [] after machine store shown is at ended = absurd is.machine_is
handed_step image name number own homes error line old new (x ∷ below) after (mm.Works frame waiting) store shown is at ended = absurd is.machine_is
handed_step image name number own homes error line old new (x ∷ below) after (mm.Waits waiting) store shown is at ended = absurd is.machine_is
handed_step image name number own homes error line old new (x ∷ below) after (mm.Fails error' h waiting) store shown is at ended = record {
  outcome = r.Raised error' (place_at h.frame.function h.line);
  next = mm.Waits [];
  after = store;
  step = refl;
  shows = told_as error error' x.head.path line h.line h.frame.function shown ended.told is.machine_is.0 is.machine_is.1.frame.path (at ∙ sym is.machine_is.1.line);
  seen = seen_idle image name homes old new (failing number own error (x ∷ below)) after (mm.Fails error' h waiting) store is ended.frames ended.carries;
}

pub line_of : (before : List Frame) (head : CallHead) → IfSome (innermost before) (λ x. head ≡ x.head) → IfSome (innermost before) (λ x. head.line ≡ x.head.line)
line_of [] head e = tt
line_of (x ∷ below) head e = ap (λ (h : CallHead). h.line) e

pub handed_back : (error : ErrorCode) (line : ℕ) (old new : Heap) (before after : List Frame) (shown : Outcome) → IfSome (innermost before) (λ x. line ≡ x.head.line) → Ended error line old before new after shown → RaisesHandedBack error old before new after shown
handed_back error line old new before after shown at ended = record {
  frames = ended.frames;
  is_step = λ image number own name homes machine store is. handed_step image name number own homes error line old new before after machine store shown is at ended;
}
