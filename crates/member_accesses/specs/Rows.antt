-- Reads and writes of members and of indexes by their operands, in the order in which these were pushed.
use Rattle.std.specs.Prelude.{List, [], ◌∷◌}
use Rattle.chan_values.specs.declared.error_code.ErrorCode.TheVariants.{E2}
use Rattle.heap_meaning.specs.Values.{StoreValue}
use Rattle.heap_meaning.specs.Store.{Store}
use Rattle.brs_grammar.specs.Form.{Text}
use Rattle.brs_meaning.specs.Given.{Given, Fails}
use Rattle.brs_meaning.specs.Members.{member_read, index_read, member_written, index_written}

abbrev pub member_read_row : Text → List StoreValue → Store → Given
member_read_row k (x ∷ []) store = member_read x k store
member_read_row k _ store = Fails E2

abbrev pub index_read_row : List StoreValue → Store → Given
index_read_row (x ∷ i ∷ []) store = index_read x i store
index_read_row _ store = Fails E2

abbrev pub member_write_row : Text → List StoreValue → Store → Given
member_write_row k (x ∷ v ∷ []) store = member_written x k v store
member_write_row k _ store = Fails E2

abbrev pub index_write_row : List StoreValue → Store → Given
index_write_row (x ∷ i ∷ v ∷ []) store = index_written x i v store
index_write_row _ store = Fails E2
