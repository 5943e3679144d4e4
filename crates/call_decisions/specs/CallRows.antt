-- What the call of a value does, by what it calls.
use Rattle.std.specs.Prelude.{◌≡◌, ℕ, List, [], ◌∷◌, Option, Some, None}
use Rattle.chan_values.specs.declared.error_code.ErrorCode.TheVariants.{E5}
use Rattle.heap_meaning.specs.Values.{Value, StoreValue}
use Rattle.heap_meaning.specs.Store.{Store}
use Rattle.heap_meaning.specs.Stands.{Naming, Outside, meaning, Stands}
use Rattle.heap_meaning.specs.Heap.{Heap}
use Rattle.object_operations.specs.Applies.{AreOut}
use Rattle.brs_builtins.specs.Table.{applied}
use Rattle.brs_grammar.specs.Form.{Text}
use Rattle.brs_meaning.specs.Given.{Given, Fails, answered}
use Rattle.brs_meaning.specs.Calls.{built_in_call}
use Rattle.brs_meaning.specs.WorldCalls.{create_object, wait}
use Rattle.machine_meaning.specs.Acted.{Acted, Faults}
use Rattle.machine_meaning.specs.Setting.{Setting}
use Rattle.machine_meaning.specs.Calls.{called, call}
use Rattle.call_decisions.specs.declared.built_in.BuiltInCall.{BuiltInCall}
use Rattle.call_decisions.specs.declared.built_in.BuiltInCall.TheVariants as c

-- a call of the function of this number, or of what is no function
abbrev pub number_acts : Option ℕ → Setting → (arguments : List StoreValue) → Store → Acted
number_acts (Some n) s arguments store = called s n None arguments store
number_acts None s arguments store = Faults E5

-- whatever the store that the heap stands for, a call of the value does what a call of this does
abbrev pub IsCallRow : Heap → Value → Option ℕ → Type 0
IsCallRow heap v decided =
    (name : Naming) (store : Store) (before : Outside) → Stands name heap.cells store before → AreOut (v ∷ []) before
    → (s : Setting) (arguments : List StoreValue) → call s (meaning name v) arguments store ≡ number_acts decided s arguments store

-- a call of what a built-in function's name calls
abbrev pub built_in_gives : BuiltInCall → (actor : ℕ) → (arguments : List StoreValue) → Store → Given
built_in_gives c.CreateObject actor arguments store = create_object actor arguments store
built_in_gives c.Wait actor arguments store = wait actor arguments
built_in_gives (c.Applies operation) actor arguments store = answered (applied operation arguments store)
built_in_gives c.Nothing actor arguments store = Fails E5

abbrev pub IsBuiltInRow : Text → BuiltInCall → Type 0
IsBuiltInRow name decided = (actor : ℕ) (arguments : List StoreValue) (store : Store) → built_in_call actor name arguments store ≡ built_in_gives decided actor arguments store
