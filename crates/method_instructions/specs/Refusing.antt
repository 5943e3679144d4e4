-- What the functions of calls promise that call nothing.
use Rattle.std.specs.Prelude.{◌≡◌, ℕ, List, Some, None, slice_get}
use Rattle.chan_values.specs.declared.error_code.ErrorCode.{ErrorCode}
use Rattle.heap_meaning.specs.Heap.{Heap}
use Rattle.heap_meaning.specs.Reading.{plain_of}
use Rattle.brs_code.specs.declared.function.Function.{Function}
use Rattle.brs_code.specs.declared.instr.Instr.TheVariants as i
use Rattle.brs_grammar.specs.Form.{Text}
use Rattle.frame_stack.specs.Frame.{Frame}
use Rattle.instruction_effects.specs.declared.effect.Effect.{Effect}
use Rattle.instruction_effects.specs.Effects.{Runs, Does, Anywhere}
use Rattle.call_decisions.specs.declared.member_call.MemberCall.TheVariants as m
use Rattle.call_decisions.specs.Functions.{number_of}
use Rattle.call_decisions.specs.MemberCalls.{member_called}
use Rattle.method_instructions.specs.Callees.{callee, IsNoFunction, Both}

-- in a call of a function whose text n is a name that calls nothing
abbrev pub MemberRefused : Effect → Heap → List Frame → (count : ℕ) → ErrorCode → Type 0
MemberRefused effect heap frames count error =
    (f : Function) (line n : ℕ) (name : Text) → slice_get f.texts n ≡ Some name → member_called heap (callee count frames) name ≡ m.Refused error
    → Does (Runs f frames) line heap frames heap frames effect (i.CallMember n count)

-- where the value is no function
abbrev pub CallRefused : Effect → Heap → List Frame → (count : ℕ) → Type 0
CallRefused effect heap frames count = (line : ℕ) → number_of (plain_of (callee count frames)) ≡ None → Does Anywhere line heap frames heap frames effect (i.Call count)

-- where the value's number is no function
abbrev pub NumberRefused : Effect → Heap → List Frame → (count : ℕ) → Type 0
NumberRefused effect heap frames count = (line k : ℕ) → number_of (plain_of (callee count frames)) ≡ Some k → Does (IsNoFunction k) line heap frames heap frames effect (i.Call count)

-- the same at the key of an associative array that text n names
abbrev pub MemberNumberRefused : Effect → Heap → List Frame → (count : ℕ) → Type 0
MemberNumberRefused effect heap frames count =
    (f : Function) (line n k : ℕ) (key : Text) → slice_get f.texts n ≡ Some key → member_called heap (callee count frames) key ≡ m.Function k
    → Does (Both (Runs f frames) (IsNoFunction k)) line heap frames heap frames effect (i.CallMember n count)
