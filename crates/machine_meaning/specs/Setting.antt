-- What an instruction may look at, and how what an operation gives becomes what it does.
use Rattle.std.specs.Prelude.{ℕ, ◌+◌, List, [], ◌∷◌, Option, Some, None, slice_get}
use Rattle.chan_values.specs.declared.error_code.ErrorCode.TheVariants.{E2}
use Rattle.heap_meaning.specs.declared.plain.Plain.TheVariants as p
use Rattle.heap_meaning.specs.Values.{StoreValue, Scalar}
use Rattle.heap_meaning.specs.Store.{Store}
use Rattle.brs_grammar.specs.Form.{Text}
use Rattle.brs_meaning.specs.Given as g
use Rattle.brs_meaning.specs.Given.{Given}
use Rattle.machine_meaning.specs.Image.{Image, scoped, built_in_number}
use Rattle.machine_meaning.specs.Frame.{Operand, Holds, Slots, slot_value, OnOperands, Nowhere, Frame}
use Rattle.machine_meaning.specs.Acted.{Acted, Goes, Asks, Faults, Lost}

-- the channel, the number of the actor, the scope of the call's home, and the call
pub record Setting : Type 0 where
  pub image : Image
  pub actor : ℕ
  pub scope : ℕ
  pub frame : Frame

-- the next instruction, with these slots and these operands on the others
abbrev pub passes : Setting → Slots → Store → (back : List Operand) → Acted
passes s slots store back = Goes slots store back (s.frame.place + 1)

-- a value becomes an operand, on those that stay
abbrev pub above : Setting → (back : List Operand) → g.Given → Acted
above s back (g.Gives v store) = passes s s.frame.slots store (Holds v ∷ back)
above s back (g.Wants request) = Asks request back OnOperands
above s back (g.Fails e) = Faults e
-- calls are made by instructions of their own
above s back (g.Calls f m vs) = Lost

abbrev pub gives : Setting → Given → Acted
gives s given = above s [] given

-- a write ends its statement, a node's only when its answer is there
abbrev pub writes : Setting → Given → Acted
writes s (g.Gives v store) = passes s s.frame.slots store []
writes s (g.Wants request) = Asks request [] Nowhere
writes s (g.Fails e) = Faults e
-- no write is a call
writes s (g.Calls f m vs) = Faults E2

-- what is read for `+=` and its kin stands on the operands of the target
abbrev pub keeps : Setting → (back : List Operand) → Given → Acted
keeps s back (g.Calls f m vs) = Faults E2
keeps s back given = above s back given

-- a text of the function
abbrev pub with_text : Option Text → (Text → Acted) → Acted
with_text (Some text) acted = acted text
with_text None acted = Lost

-- a name without a local: the function of the home's scope, else the built-in function
abbrev pub function_named : Setting → Option Text → Option StoreValue
function_named s None = None
function_named s (Some x) = elim (scoped s.image s.scope x) [
  | Some n ↦ Some (Scalar (p.Function n))
  | None ↦ elim (built_in_number s.image x) [ Some n ↦ Some (Scalar (p.Function n)) | None ↦ None ]
]

-- the value of a slot where it is set
abbrev pub slot_reads : Setting → ℕ → Option StoreValue
slot_reads s n = elim (slot_value s.frame.slots n) [ Some v ↦ Some v | None ↦ function_named s (slice_get s.frame.function.names n) ]
