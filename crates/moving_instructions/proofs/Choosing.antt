-- Instructions that choose where to go on.
use Rattle.std.proofs.Common.{◌≡◌, ℕ, ◌+◌, ◌<◌, ◌≤◌, List, [], ◌∷◌, ◌++◌, length, take, drop, Option, Some, None, refl, sym, ap, ◌∙◌, subst, arith}
use Rattle.std.specs.Prelude.{Bool, true, false, cond}
use Rattle.std.proofs.lemmas.List.{take-append-drop}
use Rattle.chan_values.specs.declared.error_code.ErrorCode.TheVariants.{E2}
use Rattle.heap_meaning.specs.declared.plain.Plain.{Plain}
use Rattle.heap_meaning.specs.declared.plain.Plain.TheVariants as p
use Rattle.heap_meaning.specs.Values.{Value, Direct, Cell, StoreValue, Scalar}
use Rattle.heap_meaning.specs.Store.{Store}
use Rattle.heap_meaning.specs.Cells.{Content, occurrence}
use Rattle.heap_meaning.specs.Stands.{Naming, meaning}
use Rattle.heap_meaning.specs.Heap.{Heap, Belongs, content_at}
use Rattle.heap_meaning.proofs.Showing.{out_belongs, Seen, sees_plain, sees_text, sees_array, sees_pairs, sees_message, sees}
use Rattle.brs_code.specs.declared.instr.Instr.TheVariants as i
use Rattle.machine_meaning.specs.Image.{Image}
use Rattle.machine_meaning.specs.Frame as mm
use Rattle.machine_meaning.specs.Acted.{Goes, Faults}
use Rattle.machine_meaning.specs.Setting.{Setting}
use Rattle.machine_meaning.specs.Statements.{branch}
use Rattle.machine_meaning.specs.Stepping.{setting_of}
use Rattle.frame_stack.specs.Operand.{Operand, Holds, Items, Keys}
use Rattle.frame_stack.specs.Frame.{Frame, without_operands, operands_of, changed}
use Rattle.call_release.specs.References.{all_operand_references}
use Rattle.frame_actions.specs.Actions.{at_place, dropped, last_value, truth_in, truth_of, Carries}
use Rattle.frame_actions.proofs.Holding.{twice}
use Rattle.frame_actions.proofs.Moving.{operand_there}
use Rattle.actor_meaning.specs.declared.outcome.Outcome.TheVariants.{Went}
use Rattle.actor_meaning.specs.View.{Home, FrameIs, held}
use Rattle.actor_meaning.specs.Performed.{working, Performed, Faulted}
use Rattle.actor_meaning.proofs.Moves.{place_seen, place_moved, operands_fewer}
use Rattle.moving_instructions.specs.Behind.{IsBehind}
use Rattle.moving_instructions.proofs.Going.{GoesOn, performs, behind_of, operands_in, carries_place, carries_both}
use Rattle.moving_instructions.proofs.Values.{last_seen}

-- ---- a Boolean

truth_is : (v : Value) (b : Bool) → truth_of v ≡ Some b → v ≡ Direct (p.Truth b)
truth_is (Direct (p.Truth c)) b e =
    let s : Some c ≡ Some b = e in
    let q : c ≡ b = cc in
    ap (λ (t : Bool). Direct (p.Truth t)) q
truth_is (Direct p.Invalid) b e = absurd cc
truth_is (Direct (p.Small n)) b e = absurd cc
truth_is (Direct (p.Big n)) b e = absurd cc
truth_is (Direct (p.Function n)) b e = absurd cc
truth_is (Direct (p.Node n)) b e = absurd cc
truth_is (Direct (p.Port n)) b e = absurd cc
truth_is (Direct p.Screen) b e = absurd cc
truth_is (Cell k) b e = absurd cc

chosen_goes : (b : Bool) (x : Frame) (next to : ℕ) → 0 < length x.operands → truth_of (last_value x.operands) ≡ Some b → next ≡ x.head.place + 1 → GoesOn (i.Branch to) x (dropped 1 (cond b next to) x)
chosen_goes true x next to there truth behind = λ image number name homes frame store f. record {
  slots = frame.slots;
  back = [];
  to = next;
  acts =
      ap (λ vs. branch (setting_of image number homes frame) to vs store) (last_seen image name x frame f there ∙ ap (λ v. meaning name v ∷ []) (truth_is (last_value x.operands) true truth))
      ∙ ap (λ q. Goes frame.slots store [] q) (place_seen image name x frame next f behind);
  seen = place_moved image name (without_operands 1 x) (mm.with_operands (drop 1 frame.operands) frame) next (operands_fewer image name x frame 1 f);
}
chosen_goes false x next to there truth behind = λ image number name homes frame store f. record {
  slots = frame.slots;
  back = [];
  to = to;
  acts = ap (λ vs. branch (setting_of image number homes frame) to vs store) (last_seen image name x frame f there ∙ ap (λ v. meaning name v ∷ []) (truth_is (last_value x.operands) false truth));
  seen = place_moved image name (without_operands 1 x) (mm.with_operands (drop 1 frame.operands) frame) to (operands_fewer image name x frame 1 f);
}

pub branch_row : (old mid : Heap) (before middle after : List Frame) (b : Bool) (next to place : ℕ) → 0 < length (operands_of before) → IsBehind before next → truth_of (last_value (operands_of before)) ≡ Some b → place ≡ cond b next to
    → Carries old before mid middle → middle ≡ changed (without_operands 1) before → after ≡ changed (at_place place) middle → Performed old before mid after Went (i.Branch to)
branch_row old mid before middle after b next to place there behind truth chosen carries taken moved = performs old mid before after (dropped 1 (cond b next to)) (i.Branch to) (operand_there before there)
    (λ x is.
    let ops : operands_of before ≡ x.operands = operands_in before x is in
    chosen_goes b x next to (subst (λ (l : List Operand). 0 < length l) ops there) (ap (λ l. truth_of (last_value l)) (sym ops) ∙ truth) (behind_of before x next behind is))
    (carries_both old mid mid before middle after carries (carries_place mid middle after place moved))
    (moved ∙ ap (changed (at_place place)) taken ∙ twice (without_operands 1) (at_place place) before ∙ ap (λ q. changed (dropped 1 q) before) chosen)

-- ---- a value that is no Boolean

plain_fails : (s : Setting) (to : ℕ) (after : Store) (plain : Plain) → truth_in (Some plain) ≡ None → branch s to (Scalar plain ∷ []) after ≡ Faults E2
plain_fails s to after (p.Truth b) e = absurd cc
plain_fails s to after p.Invalid e = refl
plain_fails s to after (p.Small n) e = refl
plain_fails s to after (p.Big n) e = refl
plain_fails s to after (p.Function n) e = refl
plain_fails s to after (p.Node n) e = refl
plain_fails s to after (p.Port n) e = refl
plain_fails s to after p.Screen e = refl

value_fails : (s : Setting) (to : ℕ) (after : Store) (name : Naming) (store : Store) (v : Value) (w : StoreValue) (o : Option Content) → Seen name store v w o → truth_of v ≡ None → branch s to (w ∷ []) after ≡ Faults E2
value_fails s to after name store _ _ _ (sees_plain {p = plain}) e = plain_fails s to after plain e
value_fails s to after name store _ _ _ sees_text e = refl
value_fails s to after name store _ _ _ (sees_array g) e = refl
value_fails s to after name store _ _ _ (sees_pairs g) e = refl
value_fails s to after name store _ _ _ (sees_message g) e = refl

last_occurs : (k : ℕ) (operands : List Operand) → occurrence k (last_value operands) ≤ all_operand_references k operands
last_occurs k [] = omega arith
last_occurs k (Holds v ∷ operands) = omega arith
last_occurs k (Items array next ∷ operands) = omega arith
last_occurs k (Keys keys ∷ operands) = omega arith

last_out : (number : ℕ) (own : List Home) (x : Frame) (below : List Frame) (k : ℕ) → occurrence k (last_value x.operands) ≤ held (working number own (x ∷ below)) k
last_out number own x below k = let y = last_occurs k x.operands in omega arith

pub no_truth : (old : Heap) (before : List Frame) (to : ℕ) → 0 < length (operands_of before) → truth_of (last_value (operands_of before)) ≡ None → Faulted old before E2 (i.Branch to)
no_truth old [] to there e = absurd (omega arith)
no_truth old (x ∷ below) to there e = λ image number own name homes frame waiting store is.
    let belongs : Belongs old (last_value x.operands) = out_belongs old name store (held (working number own (x ∷ below))) (last_value x.operands) is.stands (last_out number own x below) in
    ap (λ vs. branch (setting_of image number homes frame) to vs store) (last_seen image name x frame is.machine_is.0 there)
    ∙ value_fails (setting_of image number homes frame) to store name store (last_value x.operands) (meaning name (last_value x.operands)) (content_at old (last_value x.operands)) (sees old name store (held (working number own (x ∷ below))) (last_value x.operands) is.stands belongs) e

-- ---- operators that the left side decides

pub decided : (x : Frame) (frame : mm.Frame) (image : Image) (name : Naming) (to : ℕ) → FrameIs image name x frame → FrameIs image name (at_place to x) (record frame { place = to; operands = take 1 frame.operands ++ drop 1 frame.operands; slots = frame.slots })
decided x frame image name to f =
    subst (λ ops. FrameIs image name (at_place to x) (record frame { place = to; operands = ops; slots = frame.slots })) (sym (take-append-drop 1 frame.operands)) (place_moved image name x frame to f)

pub and_row : (heap : Heap) (before after : List Frame) (to : ℕ) → 0 < length before → after ≡ changed (at_place to) before → Performed heap before heap after Went (i.AndTest to)
and_row heap before after to there e = performs heap heap before after (at_place to) (i.AndTest to) there
    (λ x is image number name homes frame store f. record { slots = frame.slots; back = take 1 frame.operands; to = to; acts = refl; seen = decided x frame image name to f })
    (carries_place heap before after to e) e

pub or_row : (heap : Heap) (before after : List Frame) (to : ℕ) → 0 < length before → after ≡ changed (at_place to) before → Performed heap before heap after Went (i.OrTest to)
or_row heap before after to there e = performs heap heap before after (at_place to) (i.OrTest to) there
    (λ x is image number name homes frame store f. record { slots = frame.slots; back = take 1 frame.operands; to = to; acts = refl; seen = decided x frame image name to f })
    (carries_place heap before after to e) e
