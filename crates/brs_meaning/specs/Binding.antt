-- How a call begins: its arguments are bound to the parameters of its function.
use Rattle.std.specs.Prelude.{ℕ, zero, suc, Bool, true, false, List, [], ◌∷◌, ◌++◌, length, Option, Some, None, cond, nat_le}
use Rattle.chan_values.specs.declared.error_code.ErrorCode.{ErrorCode}
use Rattle.chan_values.specs.declared.error_code.ErrorCode.TheVariants.{E2, E6, E8}
use Rattle.brs_grammar.specs.Form.{Text, none, more, Params, unnamed, required, optional}
use Rattle.heap_meaning.specs.Values.{StoreValue}
use Rattle.brs_meaning.specs.Program.{Function}
use Rattle.brs_meaning.specs.Locals.{Locals}
use Rattle.brs_meaning.specs.Typed.{typed}
use Rattle.brs_meaning.specs.Running.{Kind, Call, Binds, Task, before}

-- the most calls in progress that one actor has
abbrev pub most_calls : ℕ
most_calls = 256

-- whether a call can take so many arguments: each parameter without a default gets one, and there are no more than parameters
abbrev pub suits : Params → ℕ → Bool
suits unnamed zero = true
suits unnamed (suc n) = false
suits (required place name kind rest) zero = false
suits (required place name kind rest) (suc n) = suits rest n
suits (optional place name kind default rest) zero = suits rest zero
suits (optional place name kind default rest) (suc n) = suits rest n

abbrev pub bound_before : Text → Option StoreValue → Option Locals → Option Locals
bound_before name (Some v) (Some locals) = Some (record { key = name; value = v } ∷ locals)
bound_before name _ _ = None

-- the arguments as locals, each as the type of its parameter takes it; None where one is of a wrong type
abbrev pub bound : Params → List StoreValue → Option Locals
bound (required place name kind rest) (v ∷ vs) = bound_before name (typed kind v) (bound rest vs)
bound (optional place name kind default rest) (v ∷ vs) = bound_before name (typed kind v) (bound rest vs)
bound _ _ = Some []

-- the parameters that get no argument take their defaults, in order
abbrev pub defaults : Params → (arguments : ℕ) → List Task
defaults unnamed n = []
defaults (required place name kind rest) zero = defaults rest zero
defaults (required place name kind rest) (suc n) = defaults rest n
defaults (optional place name kind default rest) zero = record { job = Binds name kind; place = place; operands = more default none } ∷ defaults rest zero
defaults (optional place name kind default rest) (suc n) = defaults rest n

-- a call begins, or is refused
pub data Begun : Type 0 where
  Begins : Call → List Task → Begun
  Refuses : ErrorCode → Begun

abbrev pub begun_with : Kind → Function → (home : ℕ) → (m : StoreValue) → Option Locals → List Task → Begun
begun_with kind f home m None tasks = Refuses E2
begun_with kind f home m (Some locals) tasks = Begins (record { kind = kind; function = f; home = home; m = m; locals = locals }) tasks

-- first the number of arguments counts, then the number of calls in progress, then the types of the arguments
abbrev pub begun : Kind → Function → (home : ℕ) → (m : StoreValue) → (arguments : List StoreValue) → (calls : ℕ) → Begun
begun kind f home m arguments calls =
    cond (suits f.callee.params (length arguments))
    (cond (nat_le most_calls calls) (Refuses E8) (begun_with kind f home m (bound f.callee.params arguments) (defaults f.callee.params (length arguments) ++ before f.callee.body [])))
    (Refuses E6)
