-- What the functions of calls promise, by what the value is that is called.
use Rattle.std.specs.Prelude.{◌≡◌, ℕ, List, Some, slice_get}
use Rattle.heap_meaning.specs.Heap.{Heap}
use Rattle.heap_meaning.specs.Reading.{plain_of}
use Rattle.brs_code.specs.declared.function.Function.{Function}
use Rattle.brs_code.specs.declared.instr.Instr.TheVariants as i
use Rattle.brs_grammar.specs.Form.{Text}
use Rattle.brs_builtins.specs.declared.operation.Operation.{Operation}
use Rattle.frame_stack.specs.Frame.{Frame}
use Rattle.instruction_effects.specs.declared.effect.Effect.{Effect}
use Rattle.instruction_effects.specs.Effects.{Runs, Does}
use Rattle.call_decisions.specs.declared.member_call.MemberCall.TheVariants as m
use Rattle.call_decisions.specs.declared.built_in.BuiltInCall.TheVariants as b
use Rattle.call_decisions.specs.Functions.{number_of}
use Rattle.call_decisions.specs.MemberCalls.{member_called}
use Rattle.call_decisions.specs.BuiltIns.{built_in_called}
use Rattle.method_instructions.specs.Callees.{callee, IsBuiltIn, Both}

-- in a call of a function whose text n is a name that calls this method
abbrev pub MethodCalled : Effect → (old : Heap) → (before : List Frame) → (new : Heap) → (after : List Frame) → (count : ℕ) → Operation → Type 0
MethodCalled effect old before new after count operation =
    (f : Function) (line n : ℕ) (name : Text) → slice_get f.texts n ≡ Some name → member_called old (callee count before) name ≡ m.Method operation
    → Does (Runs f before) line old before new after effect (i.CallMember n count)

-- where the value is a built-in function whose name calls this operation
abbrev pub BuiltInCalled : Effect → (old : Heap) → (before : List Frame) → (new : Heap) → (after : List Frame) → (count : ℕ) → Operation → Type 0
BuiltInCalled effect old before new after count operation =
    (line k : ℕ) (name : Text) → number_of (plain_of (callee count before)) ≡ Some k → built_in_called name ≡ b.Applies operation
    → Does (IsBuiltIn k name) line old before new after effect (i.Call count)

-- the same function at the key of an associative array that text n names
abbrev pub MemberBuiltInCalled : Effect → (old : Heap) → (before : List Frame) → (new : Heap) → (after : List Frame) → (count : ℕ) → Operation → Type 0
MemberBuiltInCalled effect old before new after count operation =
    (f : Function) (line n k : ℕ) (key name : Text) → slice_get f.texts n ≡ Some key → member_called old (callee count before) key ≡ m.Function k → built_in_called name ≡ b.Applies operation
    → Does (Both (Runs f before) (IsBuiltIn k name)) line old before new after effect (i.CallMember n count)
