-- Reads and writes of members and of indexes, of nodes too.
use Rattle.std.specs.Prelude.{ℕ, List, [], ◌∷◌, Option, Some, None}
use Rattle.chan_values.specs.declared.error_code.ErrorCode.TheVariants.{E2, E9}
use Rattle.chan_values.specs.Tree.{Tree}
use Rattle.heap_meaning.specs.declared.plain.Plain.TheVariants.{Node}
use Rattle.heap_meaning.specs.Values.{StoreValue, Scalar, Words}
use Rattle.heap_meaning.specs.Store.{Store}
use Rattle.object_operations.specs.Members.{read_member_row, write_member_row, read_index_row, write_index_row}
use Rattle.brs_grammar.specs.Form.{Text, Aim, ToName, ToMember, ToIndex}
use Rattle.brs_forms.specs.Words.{readable}
use Rattle.brs_meaning.specs.Request.{Asks, Get, Set}
use Rattle.brs_meaning.specs.Given.{Given, Wants, Fails, Setting, answered}
use Rattle.brs_meaning.specs.Leaving.{leaving}
use Rattle.brs_meaning.specs.Names.{found, name_value}

-- `x.k`
abbrev pub member_read : StoreValue → Text → Store → Given
member_read (Scalar (Node n)) k store = Wants (Asks (Get n k))
member_read x k store = answered (read_member_row (x ∷ Words k ∷ []) store)

-- `x[i]`; a node with a text reads as the member of that name
abbrev pub node_index_read : ℕ → StoreValue → Given
node_index_read n (Words k) = Wants (Asks (Get n k))
node_index_read n i = Fails E2

abbrev pub index_read : StoreValue → StoreValue → Store → Given
index_read (Scalar (Node n)) i store = node_index_read n i
index_read x i store = answered (read_index_row (x ∷ i ∷ []) store)

-- a value that leaves for a field
abbrev pub field_set : ℕ → Text → Option Tree → Given
field_set n k (Some t) = Wants (Asks (Set n k t))
field_set n k None = Fails E9

-- `x.k = v`
abbrev pub member_written : StoreValue → Text → StoreValue → Store → Given
member_written (Scalar (Node n)) k v store = field_set n k (leaving store v)
member_written x k v store = answered (write_member_row (x ∷ Words k ∷ v ∷ []) store)

-- `x[i] = v`
abbrev pub node_index_written : ℕ → StoreValue → StoreValue → Store → Given
node_index_written n (Words k) v store = field_set n k (leaving store v)
node_index_written n i v store = Fails E2

abbrev pub index_written : StoreValue → StoreValue → StoreValue → Store → Given
index_written (Scalar (Node n)) i v store = node_index_written n i v store
index_written x i v store = answered (write_index_row (x ∷ i ∷ v ∷ []) store)

-- what is read at a target, whose last operand stands first
abbrev pub target_read : Setting → Aim → List StoreValue → Store → Given
target_read s (ToName x) operands store = found (name_value s x) store
target_read s (ToMember k) (x ∷ []) store = member_read x (readable k) store
target_read s ToIndex (i ∷ x ∷ []) store = index_read x i store
target_read s aim operands store = Fails E2

-- what is written at a target that is no name
abbrev pub target_written : Aim → List StoreValue → StoreValue → Store → Given
target_written (ToMember k) (x ∷ []) v store = member_written x (readable k) v store
target_written ToIndex (i ∷ x ∷ []) v store = index_written x i v store
target_written aim operands v store = Fails E2
