-- Which function a value and a number are.
use Rattle.std.specs.Prelude.{◌≡◌, ℕ, ◌<◌, length, Option, Some, None, slice_get}
use Rattle.heap_meaning.specs.declared.plain.Plain.{Plain}
use Rattle.heap_meaning.specs.declared.plain.Plain.TheVariants as p
use Rattle.brs_code.specs.declared.function.Function.{Function}
use Rattle.machine_meaning.specs.Image.{Image, function_at, built_in_at}
use Rattle.call_decisions.specs.declared.function.FunctionCall.{FunctionCall}
use Rattle.call_decisions.specs.declared.function.FunctionCall.TheVariants as c

-- the number of a function
abbrev pub number_of : Option Plain → Option ℕ
number_of (Some (p.Function n)) = Some n
number_of _ = None

-- a number is a function of the source; or else the built-in one at this place of their list; or else none
abbrev pub FunctionCallIs : Image → ℕ → FunctionCall → Type 0
FunctionCallIs image n c.Source = (f : Function) × (function_at image n ≡ Some f)
FunctionCallIs image n (c.BuiltIn at) = (function_at image n ≡ None) × (at < length image.built_ins) × (built_in_at image n ≡ slice_get image.built_ins at)
FunctionCallIs image n c.Nothing = (function_at image n ≡ None) × (built_in_at image n ≡ None)
