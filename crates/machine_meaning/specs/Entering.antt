-- How a call begins: its arguments are bound to the parameters of its function.
use Rattle.std.specs.Prelude.{ℕ, Bool, false, List, [], ◌∷◌, length, replicate, Option, Some, None, slice_get, cond, nat_le}
use Rattle.chan_values.specs.declared.error_code.ErrorCode.{ErrorCode}
use Rattle.chan_values.specs.declared.error_code.ErrorCode.TheVariants.{E2, E6, E8}
use Rattle.heap_meaning.specs.Values.{StoreValue}
use Rattle.brs_meaning.specs.Running.{Kind}
use Rattle.brs_meaning.specs.Binding.{most_calls}
use Rattle.brs_code.specs.declared.function.Function.{Function}
use Rattle.brs_code.specs.declared.function.Parameter.{Parameter}
use Rattle.machine_meaning.specs.Frame.{Slots, with_slot, Frame}
use Rattle.machine_meaning.specs.Statements.{typed}

-- whether a call can take so many arguments
abbrev pub takes : Function → ℕ → Bool
takes f n = cond (nat_le f.needed n) (nat_le n (length f.parameters)) false

abbrev pub unset : Function → Slots
unset f = replicate (length f.names) None

abbrev pub bound_before : ℕ → Option StoreValue → Option Slots → Option Slots
bound_before n (Some v) (Some slots) = Some (with_slot n v slots)
bound_before n _ _ = None

-- the arguments in the slots of their parameters, each as the type of its parameter takes it; None where one is of a wrong type
abbrev pub bound : List Parameter → List StoreValue → Slots → Option Slots
bound (x ∷ xs) (v ∷ vs) slots = bound_before x.slot (typed x.kind v) (bound xs vs slots)
bound _ _ slots = Some slots

-- where a call with so many arguments goes on: at the default of the first parameter without an argument, else at the body
abbrev pub entry : Function → Option Parameter → ℕ
entry f (Some x) = x.entry
entry f None = f.start

-- a call begins, or is refused
pub data Begun : Type 0 where
  Begins : Frame → Begun
  Refuses : ErrorCode → Begun

abbrev pub begun_with : Kind → Function → (home : ℕ) → (m : StoreValue) → (arguments : ℕ) → Option Slots → Begun
begun_with kind f home m n None = Refuses E2
begun_with kind f home m n (Some slots) =
    Begins (record { kind = kind; function = f; home = home; m = m; place = entry f (slice_get f.parameters n); operands = []; slots = slots })

-- first the number of arguments counts, then the number of calls in progress, then the types of the arguments
abbrev pub begun : Kind → Function → (home : ℕ) → (m : StoreValue) → (arguments : List StoreValue) → (calls : ℕ) → Begun
begun kind f home m arguments calls =
    cond (takes f (length arguments))
    (cond (nat_le most_calls calls) (Refuses E8) (begun_with kind f home m (length arguments) (bound f.parameters arguments (unset f))))
    (Refuses E6)
