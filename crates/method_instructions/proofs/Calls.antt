-- What each function of a call promises, from its row.
use Rattle.std.proofs.Common.{◌≡◌, ℕ, ◌+◌, ◌<◌, List, length, map, Some, None, refl, sym, ap, ◌∙◌}
use Rattle.std.specs.Prelude.{slice_get}
use Rattle.chan_values.specs.declared.error_code.ErrorCode.{ErrorCode}
use Rattle.chan_values.specs.declared.error_code.ErrorCode.TheVariants.{E5}
use Rattle.heap_meaning.specs.Stands.{meaning}
use Rattle.heap_meaning.specs.Heap.{Heap}
use Rattle.heap_meaning.specs.Reading.{plain_of}
use Rattle.brs_code.specs.declared.function.Function.{Function}
use Rattle.brs_code.specs.declared.instr.Instr.TheVariants as i
use Rattle.brs_grammar.specs.Form.{Text}
use Rattle.brs_builtins.specs.declared.operation.Operation.{Operation}
use Rattle.brs_builtins.specs.Table.{applied}
use Rattle.brs_meaning.specs.Given.{answered}
use Rattle.machine_meaning.specs.Image.{Image}
use Rattle.machine_meaning.specs.Setting.{gives}
use Rattle.machine_meaning.specs.Stepping.{setting_of}
use Rattle.frame_stack.specs.Frame.{Frame, operands_of}
use Rattle.actor_meaning.specs.View.{Home}
use Rattle.instruction_effects.specs.declared.effect.Effect.{Effect}
use Rattle.instruction_effects.specs.declared.effect.Effect.TheVariants as e
use Rattle.instruction_effects.specs.Effects.{Runs, Anywhere}
use Rattle.call_decisions.specs.declared.member_call.MemberCall.TheVariants as m
use Rattle.call_decisions.specs.declared.built_in.BuiltInCall.TheVariants as b
use Rattle.call_decisions.specs.Functions.{number_of}
use Rattle.call_decisions.specs.MemberCalls.{member_called}
use Rattle.call_decisions.specs.MemberRows.{member_acts}
use Rattle.call_decisions.specs.BuiltIns.{built_in_called}
use Rattle.call_decisions.specs.CallRows.{number_acts}
use Rattle.method_instructions.specs.Callees.{last_values, callee, IsBuiltIn, IsNoFunction, Both}
use Rattle.method_instructions.specs.Operating.{GivesOf, OperatedOn}
use Rattle.method_instructions.specs.Calling.{MethodCalled, BuiltInCalled, MemberBuiltInCalled}
use Rattle.method_instructions.specs.Refusing.{MemberRefused, CallRefused, NumberRefused, MemberNumberRefused}
use Rattle.method_instructions.proofs.Values.{callee_first}
use Rattle.method_instructions.proofs.Doing.{does_where, faults_where}
use Rattle.method_instructions.proofs.Rows.{built_in_acts, nothing_acts, member_acted, call_acted}

-- ---- methods

method_gives : (image : Image) (number : ℕ) (own : List Home) (heap : Heap) (frames : List Frame) (f : Function) (n count : ℕ) (k : Text) (operation : Operation) → count < length (operands_of frames) → slice_get f.texts n ≡ Some k
    → member_called heap (callee count frames) k ≡ m.Method operation → Runs f frames image number own → GivesOf image number own heap frames (i.CallMember n count) (count + 1) (count + 1) operation
method_gives image number own heap frames f n count k operation there text decided runs = record {
  takes = refl;
  row = λ name homes frame waiting store seen.
      let s = setting_of image number homes frame in
      let vs = map (meaning name) (last_values count frames) in
      member_acted image number own heap count name homes frame waiting store frames f n k there text runs seen
      ∙ ap (λ d. member_acts d s (meaning name (callee count frames)) k vs store) decided
      ∙ ap (λ us. gives s (answered (applied operation us store))) (sym (ap (map (meaning name)) (callee_first count frames there)));
}

pub method_called : (old : Heap) (before : List Frame) (new : Heap) (after : List Frame) (count : ℕ) (operation : Operation) (effect : Effect) → count < length (operands_of before) → OperatedOn effect old before new after (count + 1) (count + 1) operation
    → MethodCalled effect old before new after count operation
method_called old before new after count operation effect there done = λ f line n k text decided.
    does_where (Runs f before) effect line old before new after (i.CallMember n count) (count + 1) (count + 1) operation (λ image number own runs. method_gives image number own old before f n count k operation there text decided runs) done

-- ---- built-in functions

built_in_gives : (image : Image) (number : ℕ) (own : List Home) (heap : Heap) (frames : List Frame) (count k : ℕ) (text : Text) (operation : Operation) → count < length (operands_of frames) → number_of (plain_of (callee count frames)) ≡ Some k
    → built_in_called text ≡ b.Applies operation → IsBuiltIn k text image number own → GivesOf image number own heap frames (i.Call count) (count + 1) count operation
built_in_gives image number own heap frames count k text operation there is applies known = record {
  takes = refl;
  row = λ name homes frame waiting store seen.
      let s = setting_of image number homes frame in
      let vs = map (meaning name) (last_values count frames) in
      call_acted image number own heap count name homes frame waiting store frames there seen
      ∙ ap (λ d. number_acts d s vs store) is
      ∙ built_in_acts s k None vs store text operation known.0 known.1 applies;
}

pub built_in_is_called : (old : Heap) (before : List Frame) (new : Heap) (after : List Frame) (count : ℕ) (operation : Operation) (effect : Effect) → count < length (operands_of before) → OperatedOn effect old before new after (count + 1) count operation
    → BuiltInCalled effect old before new after count operation
built_in_is_called old before new after count operation effect there done = λ line k text is applies.
    does_where (IsBuiltIn k text) effect line old before new after (i.Call count) (count + 1) count operation (λ image number own known. built_in_gives image number own old before count k text operation there is applies known) done

member_built_in_gives : (image : Image) (number : ℕ) (own : List Home) (heap : Heap) (frames : List Frame) (f : Function) (n count j : ℕ) (k text : Text) (operation : Operation) → count < length (operands_of frames) → slice_get f.texts n ≡ Some k
    → member_called heap (callee count frames) k ≡ m.Function j → built_in_called text ≡ b.Applies operation → Both (Runs f frames) (IsBuiltIn j text) image number own → GivesOf image number own heap frames (i.CallMember n count) (count + 1) count operation
member_built_in_gives image number own heap frames f n count j k text operation there there' decided applies known = record {
  takes = refl;
  row = λ name homes frame waiting store seen.
      let s = setting_of image number homes frame in
      let vs = map (meaning name) (last_values count frames) in
      member_acted image number own heap count name homes frame waiting store frames f n k there there' known.0 seen
      ∙ ap (λ d. member_acts d s (meaning name (callee count frames)) k vs store) decided
      ∙ built_in_acts s j (Some (meaning name (callee count frames))) vs store text operation known.1.0 known.1.1 applies;
}

pub member_built_in_is_called : (old : Heap) (before : List Frame) (new : Heap) (after : List Frame) (count : ℕ) (operation : Operation) (effect : Effect) → count < length (operands_of before)
    → OperatedOn effect old before new after (count + 1) count operation → MemberBuiltInCalled effect old before new after count operation
member_built_in_is_called old before new after count operation effect there done = λ f line n j k text there' decided applies.
    does_where (Both (Runs f before) (IsBuiltIn j text)) effect line old before new after (i.CallMember n count) (count + 1) count operation
    (λ image number own known. member_built_in_gives image number own old before f n count j k text operation there there' decided applies known) done

-- ---- nothing

pub member_is_refused : (heap : Heap) (frames : List Frame) (count : ℕ) (error : ErrorCode) → count < length (operands_of frames) → MemberRefused (e.Raises error) heap frames count error
member_is_refused heap frames count error there = λ f line n k text decided.
    faults_where (Runs f frames) line heap frames (i.CallMember n count) error
    (λ image number own runs name homes frame waiting store seen.
    member_acted image number own heap count name homes frame waiting store frames f n k there text runs seen
    ∙ ap (λ d. member_acts d (setting_of image number homes frame) (meaning name (callee count frames)) k (map (meaning name) (last_values count frames)) store) decided)

pub call_is_refused : (heap : Heap) (frames : List Frame) (count : ℕ) → count < length (operands_of frames) → CallRefused (e.Raises E5) heap frames count
call_is_refused heap frames count there = λ line none.
    faults_where Anywhere line heap frames (i.Call count) E5
    (λ image number own always name homes frame waiting store seen.
    call_acted image number own heap count name homes frame waiting store frames there seen
    ∙ ap (λ d. number_acts d (setting_of image number homes frame) (map (meaning name) (last_values count frames)) store) none)

pub number_is_refused : (heap : Heap) (frames : List Frame) (count : ℕ) → count < length (operands_of frames) → NumberRefused (e.Raises E5) heap frames count
number_is_refused heap frames count there = λ line k is.
    faults_where (IsNoFunction k) line heap frames (i.Call count) E5
    (λ image number own known name homes frame waiting store seen.
    let s = setting_of image number homes frame in
    let vs = map (meaning name) (last_values count frames) in
    call_acted image number own heap count name homes frame waiting store frames there seen ∙ ap (λ d. number_acts d s vs store) is ∙ nothing_acts s k None vs store known.0 known.1)

pub member_number_is_refused : (heap : Heap) (frames : List Frame) (count : ℕ) → count < length (operands_of frames) → MemberNumberRefused (e.Raises E5) heap frames count
member_number_is_refused heap frames count there = λ f line n j k text decided.
    faults_where (Both (Runs f frames) (IsNoFunction j)) line heap frames (i.CallMember n count) E5
    (λ image number own known name homes frame waiting store seen.
    let s = setting_of image number homes frame in
    let vs = map (meaning name) (last_values count frames) in
    member_acted image number own heap count name homes frame waiting store frames f n k there text known.0 seen
    ∙ ap (λ d. member_acts d s (meaning name (callee count frames)) k vs store) decided
    ∙ nothing_acts s j (Some (meaning name (callee count frames))) vs store known.1.0 known.1.1)
