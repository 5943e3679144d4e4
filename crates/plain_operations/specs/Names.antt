-- The names of functions and methods, folded.
use Rattle.std.specs.Prelude.{ℕ, List, [], ◌∷◌, Option, Some, None, if◌then◌else◌, codes}
use Rattle.std.specs.Str.{bytes_eq}
use Rattle.plain_operations.specs.declared.function.PlainFunction.{PlainFunction}
use Rattle.plain_operations.specs.declared.function.PlainFunction.TheVariants as f
use Rattle.plain_operations.specs.declared.method.PlainMethod.{PlainMethod}
use Rattle.plain_operations.specs.declared.method.PlainMethod.TheVariants as m

abbrev pub function_words : List (List ℕ × PlainFunction)
function_words =
    (codes "abs", f.Abs)
    ∷ (codes "asc", f.Asc)
    ∷ (codes "chr", f.Chr)
    ∷ (codes "len", f.Len)
    ∷ (codes "left", f.Left)
    ∷ (codes "right", f.Right)
    ∷ (codes "mid", f.Mid)
    ∷ (codes "instr", f.Instr)
    ∷ (codes "lcase", f.LCase)
    ∷ (codes "ucase", f.UCase)
    ∷ (codes "str", f.Str)
    ∷ (codes "stri", f.StrI)
    ∷ (codes "strtoi", f.StrToI)
    ∷ []

abbrev pub method_words : List (List ℕ × PlainMethod)
method_words =
    (codes "tostr", m.ToStr)
    ∷ (codes "toint", m.ToInt)
    ∷ (codes "len", m.Len)
    ∷ (codes "trim", m.Trim)
    ∷ []

-- what stands beside a name in a table
abbrev pub beside : {A : Type 0} → List (List ℕ × A) → List ℕ → Option A
beside [] name = None
beside (row ∷ rows) name = if bytes_eq row.0 name then Some row.1 else beside rows name

abbrev pub function_named : List ℕ → Option PlainFunction
function_named name = beside function_words name

abbrev pub method_named : List ℕ → Option PlainMethod
method_named name = beside method_words name
