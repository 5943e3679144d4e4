-- The report of a run: what its nodes are at the end.
use Rattle.std.specs.Prelude.{ℕ, ◌+◌, not, List, [], ◌∷◌, ◌++◌, filter, flat_map}
use Rattle.trace_report.specs.ReportText.{node_line, field_line}
use Rattle.node_tree.specs.declared.node.Node.{Node}
use Rattle.node_tree.specs.declared.field.Field.{Field}
use Rattle.node_tree.specs.Fields.{line_of}
use Rattle.world_meaning.specs.Portables.{portable_of}

-- the fields whose value isn't the one that their kind opens with, in the order of the kind's table and then of adding
abbrev pub shown_fields : Node → List Field
shown_fields x = filter (λ f. not (line_of f).opening) x.fields

abbrev pub field_text : (node : ℕ) → Field → List ℕ
field_text n f = field_line n f.id (portable_of f.value)

abbrev pub node_text : (node : ℕ) → Node → List ℕ
node_text n x = node_line n x.kind x.owner x.parent x.children ++ flat_map (field_text n) (shown_fields x)

-- each node, by its number
abbrev pub nodes_text : (first : ℕ) → List Node → List ℕ
nodes_text n [] = []
nodes_text n (x ∷ xs) = node_text n x ++ nodes_text (n + 1) xs

abbrev pub report : List Node → List ℕ
report nodes = nodes_text 1 nodes
