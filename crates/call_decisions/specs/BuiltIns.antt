-- What the name of a built-in function calls.
use Rattle.std.specs.Prelude.{ℕ, List, Option, Some, None, cond, codes}
use Rattle.std.specs.Str.{bytes_eq}
use Rattle.plain_operations.specs.Names.{function_named}
use Rattle.plain_operations.specs.declared.function.PlainFunction.{PlainFunction}
use Rattle.brs_builtins.specs.declared.operation.Operation.TheVariants as o
use Rattle.call_decisions.specs.declared.built_in.BuiltInCall.{BuiltInCall}
use Rattle.call_decisions.specs.declared.built_in.BuiltInCall.TheVariants.{CreateObject, Wait, Applies, Nothing}

abbrev pub function_or_nothing : Option PlainFunction → BuiltInCall
function_or_nothing (Some f) = Applies (o.Function f)
function_or_nothing None = Nothing

abbrev pub built_in_called : (name : List ℕ) → BuiltInCall
built_in_called name =
    cond (bytes_eq name (codes "createobject")) CreateObject
    (cond (bytes_eq name (codes "wait")) Wait (cond (bytes_eq name (codes "type")) (Applies o.TypeName) (function_or_nothing (function_named name))))
