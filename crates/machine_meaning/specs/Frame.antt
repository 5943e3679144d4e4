-- The calls in progress of an actor, as its machine has them. Operands and slots are seen as values of the actor's store, which stands in
-- the place of the heap.
use Rattle.std.specs.Prelude.{ℕ, List, map, Option, Some, None, slice_get, slice_set}
use Rattle.chan_values.specs.declared.error_code.ErrorCode.{ErrorCode}
use Rattle.heap_meaning.specs.declared.plain.Plain.TheVariants.{Invalid}
use Rattle.heap_meaning.specs.Values.{StoreValue, Scalar}
use Rattle.brs_grammar.specs.Form.{Text}
use Rattle.brs_meaning.specs.Running.{Kind}
use Rattle.brs_code.specs.declared.function.Function.{Function}

-- an operand: a value, or what a `for each` goes over, which is the items of an array from a place on, or keys
pub data Operand : Type 0 where
  Holds : StoreValue → Operand
  Items : (array : StoreValue) → (next : ℕ) → Operand
  Keys : List Text → Operand

-- the values of operands; the instructions of valid code that take values find no other operands
abbrev pub value_of : Operand → StoreValue
value_of (Holds v) = v
value_of _ = Scalar Invalid

abbrev pub values : List Operand → List StoreValue
values ops = map value_of ops

-- the locals by slot: a value, or unset
abbrev pub Slots : Type 0
Slots = List (Option StoreValue)

abbrev pub or_unset : Option (Option StoreValue) → Option StoreValue
or_unset None = None
or_unset (Some v) = v

abbrev pub slot_value : Slots → ℕ → Option StoreValue
slot_value slots n = or_unset (slice_get slots n)

abbrev pub with_slot : ℕ → StoreValue → Slots → Slots
with_slot n v slots = slice_set slots n (Some v)

-- a call in progress: its kind, its function, its home, its `m`, the place of its next instruction, its operands, of which the last
-- stands first, and its slots
pub record Frame : Type 0 where
  pub kind : Kind
  pub function : Function
  pub home : ℕ
  pub m : StoreValue
  pub place : ℕ
  pub operands : List Operand
  pub slots : Slots

-- where a value that is waited for goes: on the operands, or nowhere, since it only ends a statement
pub data Landing : Type 0 where
  OnOperands : Landing
  Nowhere : Landing

-- a call that waits for a value, with the line of the instruction that asked; it goes on at its place
pub record Suspended : Type 0 where
  pub frame : Frame
  pub line : ℕ
  pub landing : Landing

-- the calls in progress, the innermost first: at work; with an open want in the first of them; or about to raise an error that was handed
-- back to the first of them. Without calls the machine is idle.
pub data Machine : Type 0 where
  Works : Frame → List Suspended → Machine
  Waits : List Suspended → Machine
  Fails : ErrorCode → Suspended → List Suspended → Machine

abbrev pub at_place : ℕ → Frame → Frame
at_place to frame = record frame { place = to }

abbrev pub with_operands : List Operand → Frame → Frame
with_operands operands frame = record frame { operands = operands }
