-- Accesses to the fields of a node.
use Rattle.std.specs.Prelude.{ℕ, List, [], ◌∷◌, Option, Some, None}
use Rattle.chan_values.specs.declared.access.Access.TheVariants.{Get}
use Rattle.chan_values.specs.declared.error_code.ErrorCode.TheVariants.{E2}
use Rattle.heap_meaning.specs.declared.plain.Plain.{Plain}
use Rattle.heap_meaning.specs.declared.plain.Plain.TheVariants.{Node}
use Rattle.heap_meaning.specs.Values.{StoreValue}
use Rattle.heap_meaning.specs.Store.{Store}
use Rattle.brs_grammar.specs.Form.{Text}
use Rattle.brs_meaning.specs.Given.{Given, Fails}
use Rattle.brs_meaning.specs.Leaving.{leaving}
use Rattle.brs_meaning.specs.Members.{field_set, node_index_written}
use Rattle.object_operations.specs.declared.applied.Applied.TheVariants.{Raised}
use Rattle.member_accesses.specs.declared.reached.Reached.{Reached}
use Rattle.member_accesses.specs.declared.reached.Reached.TheVariants.{Done, Asks}

-- the node that a plain value is
abbrev pub node_in : Option Plain → Option ℕ
node_in (Some (Node n)) = Some n
node_in _ = None

-- a read by what may be the field's name
abbrev pub field_read : ℕ → Option Text → Reached
field_read n (Some field) = Asks (Get n field)
field_read n None = Done (Raised E2)

-- a write, by the value
abbrev pub field_write : ℕ → Text → List StoreValue → Store → Given
field_write n field (v ∷ []) store = field_set n field (leaving store v)
field_write n field _ store = Fails E2

-- a write, by the index and the value
abbrev pub field_write_at : ℕ → List StoreValue → Store → Given
field_write_at n (i ∷ v ∷ []) store = node_index_written n i v store
field_write_at n _ store = Fails E2
