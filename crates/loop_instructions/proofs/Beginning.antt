-- Instructions that begin a `for`.
use Rattle.std.proofs.Common.{◌≡◌, ℕ, ◌<◌, ◌≤◌, List, [], ◌∷◌, length, take, drop, map, Option, Some, None, sym, ap, ◌∙◌, subst, arith}
use Rattle.std.specs.Prelude.{pos, Bool, cond, slice_get}
use Rattle.chan_values.specs.declared.error_code.ErrorCode.TheVariants.{E2}
use Rattle.heap_meaning.specs.declared.plain.Plain.TheVariants as p
use Rattle.heap_meaning.specs.Values.{Value, Direct, StoreValue, Scalar}
use Rattle.heap_meaning.specs.Store.{Store}
use Rattle.heap_meaning.specs.Stands.{Naming, Outside, meaning}
use Rattle.heap_meaning.specs.Heap.{Heap}
use Rattle.brs_code.specs.declared.instr.Instr.{Instr}
use Rattle.brs_code.specs.declared.instr.Instr.TheVariants as i
use Rattle.brs_code.specs.Instruction.{pops}
use Rattle.brs_meaning.specs.Statements.{number}
use Rattle.machine_meaning.specs.Image.{Image}
use Rattle.machine_meaning.specs.Frame as mm
use Rattle.machine_meaning.specs.Acted.{Goes, Faults}
use Rattle.machine_meaning.specs.Setting.{Setting, passes}
use Rattle.machine_meaning.specs.Statements.{begins, begin_for, begin_for_step}
use Rattle.machine_meaning.specs.Instructions.{acted}
use Rattle.machine_meaning.specs.Stepping.{setting_of}
use Rattle.frame_stack.specs.Operand.{values}
use Rattle.frame_stack.specs.Frame.{Frame, without_operands, operands_of, changed}
use Rattle.call_release.specs.References.{call_references}
use Rattle.frame_actions.specs.Actions.{dropped, pushed, Carries}
use Rattle.frame_actions.proofs.Moving.{operand_there}
use Rattle.actor_meaning.specs.declared.outcome.Outcome.TheVariants.{Went}
use Rattle.actor_meaning.specs.View.{held, FrameIs}
use Rattle.actor_meaning.specs.Performed.{working, Performed, Faulted}
use Rattle.actor_meaning.proofs.Moves.{place_seen, values_seen, slot_more, operands_fewer, place_moved}
use Rattle.moving_instructions.specs.Behind.{IsBehind}
use Rattle.moving_instructions.proofs.Going.{performs, behind_of, operands_in}
use Rattle.moving_instructions.proofs.Values.{pushed_seen}
use Rattle.instruction_effects.specs.declared.effect.Effect.TheVariants as e
use Rattle.loop_instructions.specs.declared.numbers.Number.{Number}
use Rattle.loop_instructions.specs.declared.numbers.Number.TheVariants as n
use Rattle.loop_instructions.specs.declared.numbers.Range.{Range}
use Rattle.instruction_effects.specs.Effects.{DoesAnywhere}
use Rattle.loop_instructions.specs.Numbers.{number_at, plain_number, range_in}
use Rattle.loop_instructions.specs.Changes.{begun}
use Rattle.loop_instructions.proofs.Finding.{LastTwo, last_two, LastThree, last_three, found_is, Are, range_is}
use Rattle.loop_instructions.proofs.Meaning.{all_numbers, not_numbers}
use Rattle.loop_instructions.proofs.Effects.{raises, goes, Means, operand_means, constant_means}

-- an instruction that begins a `for` from these values, where these are the last ones
abbrev Begins : Instr → (slot : ℕ) → List StoreValue → (start end step : StoreValue) → Type 0
Begins instr slot vs start end step = (s : Setting) (operands : List mm.Operand) (store : Store) → mm.values operands ≡ vs → acted s instr operands store ≡ begins s slot start end step store

begins_for : (slot : ℕ) (start end : StoreValue) → Begins (i.For slot) slot (end ∷ start ∷ []) start end (Scalar (p.Small (pos 1)))
begins_for slot start end s operands store e = ap (λ vs. begin_for s slot vs store) e

begins_for_step : (slot : ℕ) (start end step : StoreValue) → Begins (i.ForStep slot) slot (step ∷ end ∷ start ∷ []) start end step
begins_for_step slot start end step s operands store e = ap (λ vs. begin_for_step s slot vs store) e

-- ---- three numbers

begun_seen : (image : Image) (name : Naming) (x : Frame) (frame : mm.Frame) (slot taken to : ℕ) (r : Range) → FrameIs image name x frame
    → FrameIs image name (begun slot taken to r x) (record frame { place = to; operands = mm.Holds (Scalar (plain_number r.step)) ∷ mm.Holds (Scalar (plain_number r.end)) ∷ drop taken frame.operands; slots = mm.with_slot slot (Scalar (plain_number r.start)) frame.slots })
begun_seen image name x frame slot taken to r f =
    let rest : mm.Frame = mm.with_operands (drop taken frame.operands) frame in
    let one : mm.Frame = record frame { place = to; operands = mm.Holds (Scalar (plain_number r.end)) ∷ drop taken frame.operands } in
    let two : mm.Frame = record frame { place = to; operands = mm.Holds (Scalar (plain_number r.step)) ∷ mm.Holds (Scalar (plain_number r.end)) ∷ drop taken frame.operands } in
    let fewer : FrameIs image name (dropped taken to x) (mm.at_place to rest) = place_moved image name (without_operands taken x) rest to (operands_fewer image name x frame taken f) in
    let ended : FrameIs image name (pushed (Direct (plain_number r.end)) to (dropped taken to x)) one = pushed_seen image name (dropped taken to x) (mm.at_place to rest) (Direct (plain_number r.end)) to fewer in
    let stepped : FrameIs image name (pushed (Direct (plain_number r.step)) to (pushed (Direct (plain_number r.end)) to (dropped taken to x))) two = pushed_seen image name (pushed (Direct (plain_number r.end)) to (dropped taken to x)) one (Direct (plain_number r.step)) to ended in
    slot_more image name (pushed (Direct (plain_number r.step)) to (pushed (Direct (plain_number r.end)) to (dropped taken to x))) two slot (Direct (plain_number r.start)) stepped

begun_row : (old new : Heap) (before after : List Frame) (instr : Instr) (slot to : ℕ) (r : Range) (vs : List Value) → 0 < length before → IsBehind before to → take (pops instr) (values (operands_of before)) ≡ vs
    → ((name : Naming) → Begins instr slot (map (meaning name) vs) (Scalar (plain_number r.start)) (Scalar (plain_number r.end)) (Scalar (plain_number r.step)))
    → Carries old before new after → after ≡ changed (begun slot (pops instr) to r) before → Performed old before new after Went instr
begun_row old new before after instr slot to r vs there behind found given carries e = performs old new before after (begun slot (pops instr) to r) instr there
    (λ x is image number name homes frame store f.
    let s : Setting = setting_of image number homes frame in
    let slots : mm.Slots = mm.with_slot slot (Scalar (plain_number r.start)) frame.slots in
    let back : List mm.Operand = mm.Holds (Scalar (plain_number r.step)) ∷ mm.Holds (Scalar (plain_number r.end)) ∷ [] in
    record {
      slots = slots;
      back = back;
      to = to;
      acts =
          given name s (take (pops instr) frame.operands) store (values_seen image name x frame (pops instr) f ∙ ap (map (meaning name)) (ap (λ l. take (pops instr) (values l)) (sym (operands_in before x is)) ∙ found))
          ∙ ap (λ (q : Bool). cond q (passes s slots store back) (Faults E2)) (all_numbers r)
          ∙ ap (λ q. Goes slots store back q) (place_seen image name x frame to f (behind_of before x to behind is));
      seen = begun_seen image name x frame slot (pops instr) to r f;
    })
    carries e

-- ---- other values

begin_faults : (old : Heap) (before : List Frame) (instr : Instr) (slot : ℕ) (vs : List Value) (start end step : Naming → StoreValue) (a b c : Option Number) → 0 < length before → take (pops instr) (values (operands_of before)) ≡ vs
    → ((name : Naming) → Begins instr slot (map (meaning name) vs) (start name) (end name) (step name))
    → Means old before (λ name. number (start name)) a → Means old before (λ name. number (end name)) b → Means old before (λ name. number (step name)) c → range_in a b c ≡ None → Faulted old before E2 instr
begin_faults old [] instr slot vs start end step a b c there found given ma mb mc none = absurd (omega arith)
begin_faults old (x ∷ below) instr slot vs start end step a b c there found given ma mb mc none = λ image actor own name homes frame waiting store is.
    let s : Setting = setting_of image actor homes frame in
    let out : Outside = held (working actor own (x ∷ below)) in
    let within : (k : ℕ) → call_references k (x ∷ below) ≤ out k = λ k. omega arith in
    given name s (take (pops instr) frame.operands) store (values_seen image name x frame (pops instr) is.machine_is.0 ∙ ap (map (meaning name)) found)
    ∙ ap (λ (q : Bool). cond q (passes s (mm.with_slot slot (start name) frame.slots) store (mm.Holds (step name) ∷ mm.Holds (end name) ∷ [])) (Faults E2))
    (not_numbers (number (start name)) (number (end name)) (number (step name)) a b c (ma name store out is.stands within) (mb name store out is.stands within) (mc name store out is.stands within) none)

-- ---- `For`

pub for_faults : (heap : Heap) (frames : List Frame) (slot : ℕ) (a b : Option Number) → 2 ≤ length (operands_of frames) → a ≡ number_at (slice_get (values (operands_of frames)) 1) → b ≡ number_at (slice_get (values (operands_of frames)) 0)
    → range_in a b (Some (n.Small (pos 1))) ≡ None → DoesAnywhere heap frames heap frames (e.Raises E2) (i.For slot)
for_faults heap frames slot a b room ea eb none =
    let t : LastTwo (operands_of frames) = last_two (operands_of frames) room in
    raises heap frames E2 (i.For slot)
    (begin_faults heap frames (i.For slot) slot (t.last ∷ t.before ∷ []) (λ name. meaning name t.before) (λ name. meaning name t.last) (λ name. Scalar (p.Small (pos 1))) a b (Some (n.Small (pos 1)))
    (operand_there frames (omega arith)) t.are (λ name. begins_for slot (meaning name t.before) (meaning name t.last))
    (operand_means heap frames 1 t.before a t.finds_before ea) (operand_means heap frames 0 t.last b t.finds_last eb) (constant_means heap frames (n.Small (pos 1))) none)

pub for_begun : (old new : Heap) (before after : List Frame) (slot to : ℕ) (a b : Option Number) (r : Range) → 2 ≤ length (operands_of before) → IsBehind before to → a ≡ number_at (slice_get (values (operands_of before)) 1)
    → b ≡ number_at (slice_get (values (operands_of before)) 0) → range_in a b (Some (n.Small (pos 1))) ≡ Some r → Carries old before new after → after ≡ changed (begun slot 2 to r) before → DoesAnywhere old before new after e.Went (i.For slot)
for_begun old new before after slot to a b r room behind ea eb is carries e =
    let t : LastTwo (operands_of before) = last_two (operands_of before) room in
    let are : Are a b (Some (n.Small (pos 1))) r = range_is a b (Some (n.Small (pos 1))) r is in
    let s : Some (n.Small (pos 1)) ≡ Some r.step = are.step in
    let one : n.Small (pos 1) ≡ r.step = cc in
    let end : t.last ≡ Direct (plain_number r.end) = found_is (operands_of before) 0 t.last r.end t.finds_last (sym eb ∙ are.end) in
    let start : t.before ≡ Direct (plain_number r.start) = found_is (operands_of before) 1 t.before r.start t.finds_before (sym ea ∙ are.start) in
    goes old new before after (i.For slot)
    (begun_row old new before after (i.For slot) slot to r (Direct (plain_number r.end) ∷ Direct (plain_number r.start) ∷ []) (operand_there before (omega arith)) behind
    (t.are ∙ ap (λ v. v ∷ t.before ∷ []) end ∙ ap (λ v. Direct (plain_number r.end) ∷ v ∷ []) start)
    (λ name. subst (λ (m : Number). Begins (i.For slot) slot (Scalar (plain_number r.end) ∷ Scalar (plain_number r.start) ∷ []) (Scalar (plain_number r.start)) (Scalar (plain_number r.end)) (Scalar (plain_number m))) one (begins_for slot (Scalar (plain_number r.start)) (Scalar (plain_number r.end))))
    carries e)

-- ---- `ForStep`

pub for_step_faults : (heap : Heap) (frames : List Frame) (slot : ℕ) (a b c : Option Number) → 3 ≤ length (operands_of frames) → a ≡ number_at (slice_get (values (operands_of frames)) 2) → b ≡ number_at (slice_get (values (operands_of frames)) 1)
    → c ≡ number_at (slice_get (values (operands_of frames)) 0) → range_in a b c ≡ None → DoesAnywhere heap frames heap frames (e.Raises E2) (i.ForStep slot)
for_step_faults heap frames slot a b c room ea eb ec none =
    let t : LastThree (operands_of frames) = last_three (operands_of frames) room in
    raises heap frames E2 (i.ForStep slot)
    (begin_faults heap frames (i.ForStep slot) slot (t.last ∷ t.before ∷ t.first ∷ []) (λ name. meaning name t.first) (λ name. meaning name t.before) (λ name. meaning name t.last) a b c
    (operand_there frames (omega arith)) t.are (λ name. begins_for_step slot (meaning name t.first) (meaning name t.before) (meaning name t.last))
    (operand_means heap frames 2 t.first a t.finds_first ea) (operand_means heap frames 1 t.before b t.finds_before eb) (operand_means heap frames 0 t.last c t.finds_last ec) none)

pub for_step_begun : (old new : Heap) (before after : List Frame) (slot to : ℕ) (a b c : Option Number) (r : Range) → 3 ≤ length (operands_of before) → IsBehind before to → a ≡ number_at (slice_get (values (operands_of before)) 2)
    → b ≡ number_at (slice_get (values (operands_of before)) 1) → c ≡ number_at (slice_get (values (operands_of before)) 0) → range_in a b c ≡ Some r → Carries old before new after → after ≡ changed (begun slot 3 to r) before
    → DoesAnywhere old before new after e.Went (i.ForStep slot)
for_step_begun old new before after slot to a b c r room behind ea eb ec is carries e =
    let t : LastThree (operands_of before) = last_three (operands_of before) room in
    let are : Are a b c r = range_is a b c r is in
    let step : t.last ≡ Direct (plain_number r.step) = found_is (operands_of before) 0 t.last r.step t.finds_last (sym ec ∙ are.step) in
    let end : t.before ≡ Direct (plain_number r.end) = found_is (operands_of before) 1 t.before r.end t.finds_before (sym eb ∙ are.end) in
    let start : t.first ≡ Direct (plain_number r.start) = found_is (operands_of before) 2 t.first r.start t.finds_first (sym ea ∙ are.start) in
    goes old new before after (i.ForStep slot)
    (begun_row old new before after (i.ForStep slot) slot to r (Direct (plain_number r.step) ∷ Direct (plain_number r.end) ∷ Direct (plain_number r.start) ∷ []) (operand_there before (omega arith)) behind
    (t.are ∙ ap (λ v. v ∷ t.before ∷ t.first ∷ []) step ∙ ap (λ v. Direct (plain_number r.step) ∷ v ∷ t.first ∷ []) end ∙ ap (λ v. Direct (plain_number r.step) ∷ Direct (plain_number r.end) ∷ v ∷ []) start)
    (λ name. begins_for_step slot (Scalar (plain_number r.start)) (Scalar (plain_number r.end)) (Scalar (plain_number r.step)))
    carries e)
