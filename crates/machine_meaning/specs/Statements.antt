-- What the instructions of statements do.
use Rattle.std.specs.Prelude.{ℕ, ℤ, pos, suc, true, false, List, [], ◌∷◌, Option, Some, None, slice_get, cond}
use Rattle.chan_values.specs.declared.error_code.ErrorCode.TheVariants.{E2}
use Rattle.heap_meaning.specs.declared.plain.Plain.TheVariants.{Truth, Small}
use Rattle.heap_meaning.specs.Values.{StoreValue, Scalar, Words}
use Rattle.heap_meaning.specs.Keys.{keys_of}
use Rattle.heap_meaning.specs.Store.{Object, ArrayObject, MapObject, Store}
use Rattle.plain_operations.specs.declared.fit.ValueType.{ValueType as PlainType}
use Rattle.plain_operations.specs.declared.fit.ValueType.TheVariants as q
use Rattle.plain_operations.specs.Fit.{fitted}
use Rattle.brs_grammar.specs.Form as f
use Rattle.brs_meaning.specs.Given as g
use Rattle.brs_meaning.specs.Given.{Given}
use Rattle.brs_meaning.specs.Members.{member_read, member_written, index_read, index_written}
use Rattle.brs_builtins.specs.Operands.{operand}
use Rattle.brs_meaning.specs.Typed.{fit_value}
use Rattle.brs_meaning.specs.Statements.{number, numbers, within, variable_number, stepped, object_at, items_of}
use Rattle.brs_meaning.specs.Printing.{Printing, Printed, Unprinted}
use Rattle.brs_code.specs.declared.function.Mark.{Mark}
use Rattle.brs_code.specs.declared.function.Mark.TheVariants as m
use Rattle.brs_code.specs.declared.function.Parameter.{Parameter}
use Rattle.brs_code.specs.declared.function.ValueType.{ValueType}
use Rattle.brs_code.specs.declared.function.ValueType.TheVariants as t
use Rattle.machine_meaning.specs.Frame.{Operand, Holds, Items, Keys, slot_value, with_slot}
use Rattle.machine_meaning.specs.Acted.{Acted, Goes, Prints, Leaves, Faults, Lost}
use Rattle.machine_meaning.specs.Setting.{Setting, passes, writes, keeps}

-- ---- assignments

abbrev pub set_slot : Setting → ℕ → List StoreValue → Store → Acted
set_slot s n (v ∷ []) store = passes s (with_slot n v s.frame.slots) store []
set_slot s n vs store = Lost

abbrev pub set_member : Setting → f.Text → List StoreValue → Store → Acted
set_member s k (v ∷ x ∷ []) store = writes s (member_written x k v store)
set_member s k vs store = Lost

abbrev pub set_index : Setting → List StoreValue → Store → Acted
set_index s (v ∷ i ∷ x ∷ []) store = writes s (index_written x i v store)
set_index s vs store = Lost

abbrev pub keep_member : Setting → f.Text → List Operand → List StoreValue → Store → Acted
keep_member s k back (x ∷ []) store = keeps s back (member_read x k store)
keep_member s k back vs store = Lost

abbrev pub keep_index : Setting → List Operand → List StoreValue → Store → Acted
keep_index s back (i ∷ x ∷ []) store = keeps s back (index_read x i store)
keep_index s back vs store = Lost

-- ---- prints

abbrev pub form_mark : Mark → f.Mark
form_mark m.Semicolon = f.Semicolon
form_mark m.Comma = f.Comma
form_mark m.Value = f.Shown

abbrev pub prints : Printing → Acted
prints (Printed t) = Prints t
prints (Unprinted e) = Faults e

-- ---- values by their types

abbrev pub plain_type : ValueType → PlainType
plain_type t.Integer = q.Integer
plain_type t.LongInteger = q.LongInteger
plain_type t.String = q.String
plain_type t.Boolean = q.Boolean
plain_type t.Function = q.Function
plain_type t.Any = q.Any

-- the value as a type takes it, or None where it doesn't
abbrev pub typed : ValueType → StoreValue → Option StoreValue
typed kind v = fit_value (fitted (plain_type kind) (operand v)) v

abbrev pub leaves : Option StoreValue → Acted
leaves (Some v) = Leaves v
leaves None = Faults E2

abbrev pub returns : ValueType → List StoreValue → Acted
returns kind (v ∷ []) = leaves (typed kind v)
returns kind vs = Lost

abbrev pub binds : Setting → ℕ → Option StoreValue → Store → Acted
binds s n (Some v) store = passes s (with_slot n v s.frame.slots) store []
binds s n None store = Faults E2

abbrev pub bind : Setting → Option Parameter → List StoreValue → Store → Acted
bind s (Some x) (v ∷ []) store = binds s x.slot (typed x.kind v) store
bind s _ vs store = Lost

-- ---- choices and loops

abbrev pub branch : Setting → (to : ℕ) → List StoreValue → Store → Acted
branch s to (Scalar (Truth true) ∷ []) store = passes s s.frame.slots store []
branch s to (Scalar (Truth false) ∷ []) store = Goes s.frame.slots store [] to
branch s to vs store = Faults E2

-- the variable of a `for` is set to the start, and the end and the step are kept, where all three are numbers
abbrev pub begins : Setting → ℕ → (start end step : StoreValue) → Store → Acted
begins s n start end step store =
    cond (numbers (number start) (number end) (number step)) (passes s (with_slot n start s.frame.slots) store (Holds step ∷ Holds end ∷ [])) (Faults E2)

abbrev pub begin_for : Setting → ℕ → List StoreValue → Store → Acted
begin_for s n (end ∷ start ∷ []) store = begins s n start end (Scalar (Small (pos 1))) store
begin_for s n vs store = Lost

abbrev pub begin_for_step : Setting → ℕ → List StoreValue → Store → Acted
begin_for_step s n (step ∷ end ∷ start ∷ []) store = begins s n start end step store
begin_for_step s n vs store = Lost

abbrev pub compares : Setting → (to : ℕ) → List Operand → Option ℤ → Option ℤ → Option ℤ → Store → Acted
compares s to kept (Some now) (Some end) (Some step) store = cond (within now end step) (passes s s.frame.slots store kept) (Goes s.frame.slots store [] to)
compares s to kept _ _ _ store = Faults E2

abbrev pub test_for : Setting → (slot to : ℕ) → List Operand → List StoreValue → Store → Acted
test_for s n to kept (step ∷ end ∷ []) store = compares s to kept (variable_number (slot_value s.frame.slots n)) (number end) (number step) store
test_for s n to kept vs store = Lost

abbrev pub increases : Setting → (slot to : ℕ) → List Operand → Given → Acted
increases s n to kept (g.Gives v store) = Goes (with_slot n v s.frame.slots) store kept to
increases s n to kept _ = Faults E2

abbrev pub next_for : Setting → (slot to : ℕ) → List Operand → List StoreValue → Store → Acted
next_for s n to kept (step ∷ end ∷ []) store = increases s n to kept (stepped (slot_value s.frame.slots n) step store)
next_for s n to kept vs store = Lost

-- `for each`: an array by its items as they are then, an associative array by the keys that it had at the begin
abbrev pub goes_over : Setting → (to : ℕ) → StoreValue → Option Object → Store → Acted
goes_over s to v (Some (ArrayObject items)) store = Goes s.frame.slots store (Items v 0 ∷ []) to
goes_over s to v (Some (MapObject entries)) store = Goes s.frame.slots store (Keys (keys_of entries) ∷ []) to
goes_over s to v _ store = Faults E2

abbrev pub begin_each : Setting → (to : ℕ) → List StoreValue → Store → Acted
begin_each s to (v ∷ []) store = goes_over s to v (object_at v store) store
begin_each s to vs store = Lost

abbrev pub next_item : Setting → (slot to : ℕ) → (later : Operand) → Option StoreValue → Store → Acted
next_item s n to later (Some v) store = Goes (with_slot n v s.frame.slots) store (later ∷ []) to
next_item s n to later None store = passes s s.frame.slots store []

abbrev pub next_each : Setting → (slot to : ℕ) → List Operand → Store → Acted
next_each s n to (Items v i ∷ []) store = next_item s n to (Items v (suc i)) (slice_get (items_of (object_at v store)) i) store
next_each s n to (Keys [] ∷ []) store = passes s s.frame.slots store []
next_each s n to (Keys (k ∷ keys) ∷ []) store = Goes (with_slot n (Words k) s.frame.slots) store (Keys keys ∷ []) to
next_each s n to ops store = Lost
