-- Instructions of a `for` that is under way.
use Rattle.std.proofs.Common.{◌≡◌, ℕ, ◌+◌, ◌<◌, ◌≤◌, List, [], ◌∷◌, ◌++◌, length, take, drop, map, Option, Some, None, refl, sym, ap, ◌∙◌, subst, arith}
use Rattle.std.specs.Prelude.{ℤ, Bool, true, false, cond, slice_get}
use Rattle.std.specs.Option.{option_map}
use Rattle.std.proofs.lemmas.List.{take-append-drop}
use Rattle.chan_values.specs.declared.error_code.ErrorCode.TheVariants.{E2}
use Rattle.heap_meaning.specs.Values.{Value, Direct, Scalar}
use Rattle.heap_meaning.specs.Store.{Store}
use Rattle.heap_meaning.specs.Stands.{Naming, Outside, meaning}
use Rattle.heap_meaning.specs.Heap.{Heap}
use Rattle.brs_code.specs.declared.instr.Instr.TheVariants as i
use Rattle.brs_meaning.specs.Locals as l
use Rattle.brs_meaning.specs.Statements.{number, numbers, within, variable_number, stepped}
use Rattle.machine_meaning.specs.Image.{Image}
use Rattle.machine_meaning.specs.Frame as mm
use Rattle.machine_meaning.specs.Acted.{Goes, Faults}
use Rattle.machine_meaning.specs.Setting.{Setting, passes}
use Rattle.machine_meaning.specs.Statements.{compares, test_for, increases, next_for}
use Rattle.machine_meaning.specs.Instructions.{acted}
use Rattle.machine_meaning.specs.Stepping.{setting_of}
use Rattle.frame_stack.specs.Operand.{values}
use Rattle.frame_stack.specs.Frame.{Frame, without_operands, slot_value, operands_of, slots_of, changed}
use Rattle.call_release.specs.References.{call_references}
use Rattle.frame_actions.specs.Actions.{at_place, Carries}
use Rattle.frame_actions.proofs.Holding.{twice}
use Rattle.frame_actions.proofs.Moving.{operand_there}
use Rattle.actor_meaning.specs.View.{held, FrameIs}
use Rattle.actor_meaning.specs.Performed.{working, Faulted}
use Rattle.actor_meaning.proofs.Moves.{place_seen, values_seen, slot_seen, slot_more, operands_fewer, place_moved}
use Rattle.moving_instructions.specs.Behind.{IsBehind}
use Rattle.moving_instructions.proofs.Going.{GoesOn, performs, behind_of, operands_in, slots_in}
use Rattle.instruction_effects.specs.declared.effect.Effect.TheVariants as e
use Rattle.loop_instructions.specs.declared.numbers.Number.{Number}
use Rattle.loop_instructions.specs.declared.numbers.Range.{Range}
use Rattle.instruction_effects.specs.Effects.{DoesAnywhere}
use Rattle.loop_instructions.specs.Numbers.{number_at, plain_number, integer, range_in, sum, sum_in}
use Rattle.loop_instructions.specs.Changes.{with_number, turned}
use Rattle.loop_instructions.proofs.Finding.{LastTwo, last_two, number_at_is, found_is, Are, range_is, Added, sum_is}
use Rattle.loop_instructions.proofs.Meaning.{number_means, not_numbers, step_taken, no_step}
use Rattle.loop_instructions.proofs.Effects.{raises, goes, Means, operand_means, variable_means}

-- the call with its operands as they are
kept_seen : (image : Image) (name : Naming) (x : Frame) (frame : mm.Frame) (to k : ℕ) → FrameIs image name x frame → FrameIs image name (at_place to x) (record frame { place = to; operands = take k frame.operands ++ drop k frame.operands; slots = frame.slots })
kept_seen image name x frame to k f =
    subst (λ ops. FrameIs image name (at_place to x) (record frame { place = to; operands = ops; slots = frame.slots })) (sym (take-append-drop k frame.operands)) (place_moved image name x frame to f)

-- the values of the last two operands
two_seen : (image : Image) (name : Naming) (x : Frame) (frame : mm.Frame) (last before : Value) → FrameIs image name x frame → take 2 (values x.operands) ≡ last ∷ before ∷ [] → mm.values (take 2 frame.operands) ≡ meaning name last ∷ meaning name before ∷ []
two_seen image name x frame last before f are = values_seen image name x frame 2 f ∙ ap (map (meaning name)) are

-- ---- `ForTest`

compared : (s : Setting) (to : ℕ) (kept : List mm.Operand) (store : Store) (r : Range) → compares s to kept (number (Scalar (plain_number r.start))) (number (Scalar (plain_number r.end))) (number (Scalar (plain_number r.step))) store
    ≡ cond (within (integer r.start) (integer r.end) (integer r.step)) (passes s s.frame.slots store kept) (Goes s.frame.slots store [] to)
compared s to kept store r =
    ap (λ q. compares s to kept q (number (Scalar (plain_number r.end))) (number (Scalar (plain_number r.step))) store) (number_means r.start)
    ∙ ap (λ q. compares s to kept (Some (integer r.start)) q (number (Scalar (plain_number r.step))) store) (number_means r.end)
    ∙ ap (λ q. compares s to kept (Some (integer r.start)) (Some (integer r.end)) q store) (number_means r.step)

module _ (image : Image) (actor : ℕ) (name : Naming) (homes : List l.Home) (x : Frame) (frame : mm.Frame) (store : Store) (slot to : ℕ) (r : Range) (f : FrameIs image name x frame)
    (held_there : slot_value x.slots slot ≡ Some (Direct (plain_number r.start))) (are : take 2 (values x.operands) ≡ Direct (plain_number r.step) ∷ Direct (plain_number r.end) ∷ []) where
  abbrev setting : Setting
  setting = setting_of image actor homes frame

  tested : (b : Bool) → b ≡ within (integer r.start) (integer r.end) (integer r.step)
      → acted setting (i.ForTest slot to) (take 2 frame.operands) store ≡ cond b (passes setting frame.slots store (take 2 frame.operands)) (Goes frame.slots store [] to)
  tested b is =
      ap (λ vs. test_for setting slot to (take 2 frame.operands) vs store) (two_seen image name x frame (Direct (plain_number r.step)) (Direct (plain_number r.end)) f are)
      ∙ ap (λ o. compares setting to (take 2 frame.operands) (variable_number o) (number (Scalar (plain_number r.end))) (number (Scalar (plain_number r.step))) store) (slot_seen image name x frame slot f ∙ ap (option_map (meaning name)) held_there)
      ∙ compared setting to (take 2 frame.operands) store r
      ∙ ap (λ (q : Bool). cond q (passes setting frame.slots store (take 2 frame.operands)) (Goes frame.slots store [] to)) (sym is)

test_goes : (b : Bool) (x : Frame) (slot next to : ℕ) (r : Range) → b ≡ within (integer r.start) (integer r.end) (integer r.step) → slot_value x.slots slot ≡ Some (Direct (plain_number r.start))
    → take 2 (values x.operands) ≡ Direct (plain_number r.step) ∷ Direct (plain_number r.end) ∷ [] → next ≡ x.head.place + 1 → GoesOn (i.ForTest slot to) x (turned b next to x)
test_goes true x slot next to r is held_there are behind = λ image number name homes frame store f. record {
  slots = frame.slots;
  back = take 2 frame.operands;
  to = next;
  acts = tested image number name homes x frame store slot to r f held_there are true is ∙ ap (λ q. Goes frame.slots store (take 2 frame.operands) q) (place_seen image name x frame next f behind);
  seen = kept_seen image name x frame next 2 f;
}
test_goes false x slot next to r is held_there are behind = λ image number name homes frame store f. record {
  slots = frame.slots;
  back = [];
  to = to;
  acts = tested image number name homes x frame store slot to r f held_there are false is;
  seen = place_moved image name (without_operands 2 x) (mm.with_operands (drop 2 frame.operands) frame) to (operands_fewer image name x frame 2 f);
}

pub test_stands : (old new : Heap) (before after : List Frame) (slot next to : ℕ) (a b c : Option Number) (r : Range) (stays : Bool) → 2 ≤ length (operands_of before) → IsBehind before next → a ≡ number_at (slot_value (slots_of before) slot)
    → b ≡ number_at (slice_get (values (operands_of before)) 1) → c ≡ number_at (slice_get (values (operands_of before)) 0) → range_in a b c ≡ Some r → stays ≡ within (integer r.start) (integer r.end) (integer r.step)
    → Carries old before new after → after ≡ changed (turned stays next to) before → DoesAnywhere old before new after e.Went (i.ForTest slot to)
test_stands old new before after slot next to a b c r stays room behind ea eb ec is chosen carries e =
    let t : LastTwo (operands_of before) = last_two (operands_of before) room in
    let are : Are a b c r = range_is a b c r is in
    let step : t.last ≡ Direct (plain_number r.step) = found_is (operands_of before) 0 t.last r.step t.finds_last (sym ec ∙ are.step) in
    let end : t.before ≡ Direct (plain_number r.end) = found_is (operands_of before) 1 t.before r.end t.finds_before (sym eb ∙ are.end) in
    let start : slot_value (slots_of before) slot ≡ Some (Direct (plain_number r.start)) = number_at_is (slot_value (slots_of before) slot) r.start (sym ea ∙ are.start) in
    let two : take 2 (values (operands_of before)) ≡ Direct (plain_number r.step) ∷ Direct (plain_number r.end) ∷ [] = t.are ∙ ap (λ v. v ∷ t.before ∷ []) step ∙ ap (λ v. Direct (plain_number r.step) ∷ v ∷ []) end in
    goes old new before after (i.ForTest slot to)
    (performs old new before after (turned stays next to) (i.ForTest slot to) (operand_there before (omega arith))
    (λ x i. test_goes stays x slot next to r chosen (ap (λ q. slot_value q slot) (sym (slots_in before x i)) ∙ start) (ap (λ q. take 2 (values q)) (sym (operands_in before x i)) ∙ two) (behind_of before x next behind i))
    carries e)

compare_fails : (s : Setting) (to : ℕ) (kept : List mm.Operand) (store : Store) (x y z : Option ℤ) → numbers x y z ≡ false → compares s to kept x y z store ≡ Faults E2
compare_fails s to kept store None y z e = refl
compare_fails s to kept store (Some x) None z e = refl
compare_fails s to kept store (Some x) (Some y) None e = refl
compare_fails s to kept store (Some x) (Some y) (Some z) e = absurd cc

test_faulted : (old : Heap) (before : List Frame) (slot to : ℕ) (last end : Value) (a b c : Option Number) → 0 < length before → take 2 (values (operands_of before)) ≡ last ∷ end ∷ []
    → Means old before (λ name. variable_number (option_map (meaning name) (slot_value (slots_of before) slot))) a → Means old before (λ name. number (meaning name end)) b → Means old before (λ name. number (meaning name last)) c
    → range_in a b c ≡ None → Faulted old before E2 (i.ForTest slot to)
test_faulted old [] slot to last end a b c there found ma mb mc none = absurd (omega arith)
test_faulted old (x ∷ below) slot to last end a b c there found ma mb mc none = λ image actor own name homes frame waiting store is.
    let s : Setting = setting_of image actor homes frame in
    let out : Outside = held (working actor own (x ∷ below)) in
    let fits : (k : ℕ) → call_references k (x ∷ below) ≤ out k = λ k. omega arith in
    ap (λ vs. test_for s slot to (take 2 frame.operands) vs store) (two_seen image name x frame last end is.machine_is.0 found)
    ∙ compare_fails s to (take 2 frame.operands) store (variable_number (mm.slot_value frame.slots slot)) (number (meaning name end)) (number (meaning name last))
    (not_numbers (variable_number (mm.slot_value frame.slots slot)) (number (meaning name end)) (number (meaning name last)) a b c
    (ap variable_number (slot_seen image name x frame slot is.machine_is.0) ∙ ma name store out is.stands fits) (mb name store out is.stands fits) (mc name store out is.stands fits) none)

pub test_faults : (heap : Heap) (frames : List Frame) (slot to : ℕ) (a b c : Option Number) → 2 ≤ length (operands_of frames) → a ≡ number_at (slot_value (slots_of frames) slot) → b ≡ number_at (slice_get (values (operands_of frames)) 1)
    → c ≡ number_at (slice_get (values (operands_of frames)) 0) → range_in a b c ≡ None → DoesAnywhere heap frames heap frames (e.Raises E2) (i.ForTest slot to)
test_faults heap frames slot to a b c room ea eb ec none =
    let t : LastTwo (operands_of frames) = last_two (operands_of frames) room in
    raises heap frames E2 (i.ForTest slot to)
    (test_faulted heap frames slot to t.last t.before a b c (operand_there frames (omega arith)) t.are (variable_means heap frames slot a ea) (operand_means heap frames 1 t.before b t.finds_before eb) (operand_means heap frames 0 t.last c t.finds_last ec) none)

-- ---- `ForNext`

-- the variable is set, and the loop goes to its test
abbrev stepped_to : (slot to : ℕ) → Number → Frame → Frame
stepped_to slot to m x = at_place to (with_number slot m x)

increased_seen : (image : Image) (name : Naming) (x : Frame) (frame : mm.Frame) (slot to k : ℕ) (m : Number) → FrameIs image name x frame
    → FrameIs image name (stepped_to slot to m x) (record frame { place = to; operands = take k frame.operands ++ drop k frame.operands; slots = mm.with_slot slot (Scalar (plain_number m)) frame.slots })
increased_seen image name x frame slot to k m f =
    kept_seen image name (with_number slot m x) (record frame { slots = mm.with_slot slot (Scalar (plain_number m)) frame.slots }) to k (slot_more image name x frame slot (Direct (plain_number m)) f)

next_goes : (x : Frame) (slot to : ℕ) (left right : Number) (before : Value) → slot_value x.slots slot ≡ Some (Direct (plain_number left)) → take 2 (values x.operands) ≡ Direct (plain_number right) ∷ before ∷ []
    → GoesOn (i.ForNext slot to) x (stepped_to slot to (sum left right) x)
next_goes x slot to left right before held_there are = λ image number name homes frame store f.
    let s : Setting = setting_of image number homes frame in
    record {
      slots = mm.with_slot slot (Scalar (plain_number (sum left right))) frame.slots;
      back = take 2 frame.operands;
      to = to;
      acts =
          ap (λ vs. next_for s slot to (take 2 frame.operands) vs store) (two_seen image name x frame (Direct (plain_number right)) before f are)
          ∙ ap (λ o. increases s slot to (take 2 frame.operands) (stepped o (Scalar (plain_number right)) store)) (slot_seen image name x frame slot f ∙ ap (option_map (meaning name)) held_there)
          ∙ ap (increases s slot to (take 2 frame.operands)) (step_taken left right store);
      seen = increased_seen image name x frame slot to 2 (sum left right) f;
    }

pub next_stands : (old new : Heap) (before middle after : List Frame) (slot to : ℕ) (a b : Option Number) (m : Number) → 2 ≤ length (operands_of before) → a ≡ number_at (slot_value (slots_of before) slot)
    → b ≡ number_at (slice_get (values (operands_of before)) 0) → sum_in a b ≡ Some m → Carries old before new after → middle ≡ changed (with_number slot m) before → after ≡ changed (at_place to) middle
    → DoesAnywhere old before new after e.Went (i.ForNext slot to)
next_stands old new before middle after slot to a b m room ea eb is carries set moved =
    let t : LastTwo (operands_of before) = last_two (operands_of before) room in
    let added : Added a b m = sum_is a b m is in
    let step : t.last ≡ Direct (plain_number added.right) = found_is (operands_of before) 0 t.last added.right t.finds_last (sym eb ∙ added.right_is) in
    let start : slot_value (slots_of before) slot ≡ Some (Direct (plain_number added.left)) = number_at_is (slot_value (slots_of before) slot) added.left (sym ea ∙ added.left_is) in
    let two : take 2 (values (operands_of before)) ≡ Direct (plain_number added.right) ∷ t.before ∷ [] = t.are ∙ ap (λ v. v ∷ t.before ∷ []) step in
    let all : after ≡ changed (stepped_to slot to m) before = moved ∙ ap (changed (at_place to)) set ∙ twice (with_number slot m) (at_place to) before in
    goes old new before after (i.ForNext slot to)
    (performs old new before after (stepped_to slot to (sum added.left added.right)) (i.ForNext slot to) (operand_there before (omega arith))
    (λ x i. next_goes x slot to added.left added.right t.before (ap (λ q. slot_value q slot) (sym (slots_in before x i)) ∙ start) (ap (λ q. take 2 (values q)) (sym (operands_in before x i)) ∙ two))
    carries (all ∙ ap (λ q. changed (stepped_to slot to q) before) added.is))

next_faulted : (old : Heap) (before : List Frame) (slot to : ℕ) (last end : Value) (a b : Option Number) → 0 < length before → take 2 (values (operands_of before)) ≡ last ∷ end ∷ []
    → Means old before (λ name. variable_number (option_map (meaning name) (slot_value (slots_of before) slot))) a → Means old before (λ name. number (meaning name last)) b → sum_in a b ≡ None → Faulted old before E2 (i.ForNext slot to)
next_faulted old [] slot to last end a b there found ma mb none = absurd (omega arith)
next_faulted old (x ∷ below) slot to last end a b there found ma mb none = λ image actor own name homes frame waiting store is.
    let s : Setting = setting_of image actor homes frame in
    let out : Outside = held (working actor own (x ∷ below)) in
    let fits : (k : ℕ) → call_references k (x ∷ below) ≤ out k = λ k. omega arith in
    ap (λ vs. next_for s slot to (take 2 frame.operands) vs store) (two_seen image name x frame last end is.machine_is.0 found)
    ∙ ap (increases s slot to (take 2 frame.operands))
    (no_step (mm.slot_value frame.slots slot) (meaning name last) store a b (ap variable_number (slot_seen image name x frame slot is.machine_is.0) ∙ ma name store out is.stands fits) (mb name store out is.stands fits) none)

pub next_faults : (heap : Heap) (frames : List Frame) (slot to : ℕ) (a b : Option Number) → 2 ≤ length (operands_of frames) → a ≡ number_at (slot_value (slots_of frames) slot) → b ≡ number_at (slice_get (values (operands_of frames)) 0)
    → sum_in a b ≡ None → DoesAnywhere heap frames heap frames (e.Raises E2) (i.ForNext slot to)
next_faults heap frames slot to a b room ea eb none =
    let t : LastTwo (operands_of frames) = last_two (operands_of frames) room in
    raises heap frames E2 (i.ForNext slot to)
    (next_faulted heap frames slot to t.last t.before a b (operand_there frames (omega arith)) t.are (variable_means heap frames slot a ea) (operand_means heap frames 0 t.last b t.finds_last eb) none)
