-- Members of associative arrays by the names that code has: the rows of reads and writes of members, with a name that is no operand.
use Rattle.std.specs.Prelude.{ℕ, List, [], ◌∷◌, Some}
use Rattle.chan_values.specs.declared.error_code.ErrorCode.TheVariants.{E6}
use Rattle.heap_meaning.specs.Values.{StoreValue, Words, Entry}
use Rattle.heap_meaning.specs.Store.{Store}
use Rattle.brs_grammar.specs.Form.{Text}
use Rattle.object_operations.specs.Answer.{Answer, Raises}
use Rattle.object_operations.specs.Maps.{looked_up, put_row}
use Rattle.object_operations.specs.Members.{read_member_row, write_member_row}

abbrev pub named_lookup : Text → ℕ → List (Entry StoreValue) → List StoreValue → Store → Answer
named_lookup k n entries [] store = looked_up entries (Some k) store
named_lookup k n entries _ store = Raises E6

abbrev pub named_put : Text → ℕ → List (Entry StoreValue) → List StoreValue → Store → Answer
named_put k n entries (v ∷ []) store = put_row n entries (Some k) v store
named_put k n entries _ store = Raises E6

abbrev pub named_read : Text → List StoreValue → Store → Answer
named_read k (x ∷ []) store = read_member_row (x ∷ Words k ∷ []) store
named_read k _ store = Raises E6

abbrev pub named_write : Text → List StoreValue → Store → Answer
named_write k (x ∷ v ∷ []) store = write_member_row (x ∷ Words k ∷ v ∷ []) store
named_write k _ store = Raises E6
