-- What a call is made on, what it is given, and what has to be known of it.
use Rattle.std.specs.Prelude.{◌≡◌, ℕ, List, reverse, take, Some, None, IfSome, slice_index_or}
use Rattle.heap_meaning.specs.Values.{Value, filler}
use Rattle.brs_grammar.specs.Form.{Text}
use Rattle.machine_meaning.specs.Image.{function_at, built_in_at}
use Rattle.frame_stack.specs.Operand.{values}
use Rattle.frame_stack.specs.Frame.{Frame, operands_of}
use Rattle.instruction_effects.specs.Effects.{Circumstance}
use Rattle.call_decisions.specs.declared.built_in.BuiltInCall.TheVariants.{Nothing}
use Rattle.call_decisions.specs.BuiltIns.{built_in_called}

-- the values of so many of the last operands, in the order in which they were pushed
abbrev pub last_values : (n : ℕ) → List Frame → List Value
last_values n frames = reverse (take n (values (operands_of frames)))

-- the value that so many arguments are given to
abbrev pub callee : (count : ℕ) → List Frame → Value
callee count frames = slice_index_or (values (operands_of frames)) count filler

-- a number is the built-in function of this folded name
abbrev pub IsBuiltIn : ℕ → Text → Circumstance
IsBuiltIn n name image number homes = (function_at image n ≡ None) × (built_in_at image n ≡ Some name)

-- a number is no function of the source, and no built-in one whose name has a meaning
abbrev pub IsNoFunction : ℕ → Circumstance
IsNoFunction n image number homes = (function_at image n ≡ None) × IfSome (built_in_at image n) (λ name. built_in_called name ≡ Nothing)

abbrev pub Both : Circumstance → Circumstance → Circumstance
Both C D image number homes = C image number homes × D image number homes
