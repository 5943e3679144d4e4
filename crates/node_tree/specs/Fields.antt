-- Fields of nodes: how they are found by their names, and what a set and an addition do.
use Rattle.std.specs.Prelude.{ℕ, Bool, not, ◌||◌, List, [], ◌∷◌, ◌++◌, Option, Some, None, find, is_some, option_map, slice_get, if◌then◌else◌}
use Rattle.chan_values.specs.Tree.{Tree}
use Rattle.chan_values.specs.Folded.{folded}
use Rattle.field_types.specs.declared.types.FieldType.{FieldType}
use Rattle.field_types.specs.Words.{is_alike}
use Rattle.field_types.specs.Conversion.{converted}
use Rattle.field_types.specs.Opening.{opening_of}
use Rattle.node_tree.specs.declared.field.Field.{Field}
use Rattle.node_tree.specs.declared.node.Node.{Node}
use Rattle.node_tree.specs.declared.answers.SetResult.{SetResult}
use Rattle.node_tree.specs.declared.answers.SetResult.TheVariants.{NoField, NoFit, Same, Changed}
use Rattle.node_tree.specs.SameTree.{same_tree}
use Rattle.node_tree.specs.Nodes.{fields_of, change_first, with_node, with_fields}

-- the field of this name, in any case of its letters
abbrev pub field_named : List ℕ → List Field → Option Field
field_named name fields = find (λ f. is_alike f.id name) fields

abbrev pub field_of : List Node → ℕ → List ℕ → Option Field
field_of nodes n name = field_named name (fields_of nodes n)

abbrev pub value_of : List Node → ℕ → List ℕ → Option Tree
value_of nodes n name = option_map (λ f. f.value) (field_of nodes n name)

abbrev pub has_field : List Node → ℕ → List ℕ → Bool
has_field nodes n name = is_some (field_of nodes n name)

-- ---- a set

-- whether a set of a value that fits counts as a change
abbrev pub counts : Field → Tree → Bool
counts f v = f.always || not (same_tree v f.value)

abbrev pub fit_answer : Field → Option Tree → SetResult
fit_answer f None = NoFit
fit_answer f (Some v) = if counts f v then Changed else Same

-- what a set of a value answers at a field, or where there is none
abbrev pub set_answer : Option Field → Tree → SetResult
set_answer None v = NoField
set_answer (Some f) v = fit_answer f (converted f.kind v)

-- the value of the first field of this name is another
abbrev pub with_value : List ℕ → Tree → List Field → List Field
with_value name v fields = change_first (λ f. is_alike f.id name) (λ f. record f { value = v }) fields

abbrev pub with_fit : List ℕ → Option Tree → List Field → List Field
with_fit name None fields = fields
with_fit name (Some v) fields = with_value name v fields

abbrev pub fit_of : Option Field → Tree → Option Tree
fit_of None v = None
fit_of (Some f) v = converted f.kind v

-- the fields after a set: where the value fits, the field holds it
abbrev pub fields_after_set : List ℕ → Tree → List Field → List Field
fields_after_set name v fields = with_fit name (fit_of (field_named name fields) v) fields

abbrev pub after_set : List Node → ℕ → List ℕ → Tree → List Node
after_set nodes n name v = with_node (with_fields (fields_after_set name v)) nodes n

-- ---- an addition

-- an added field holds the opening value of its type
abbrev pub added_field : List ℕ → FieldType → Bool → Field
added_field name t always = record { id = folded name; kind = t; always = always; value = opening_of t; opening = opening_of t }

-- the nodes after an addition: the field stands last, but not where one of its name is there
abbrev pub after_add : List Node → ℕ → List ℕ → FieldType → Bool → List Node
after_add nodes n name t always = if has_field nodes n name then nodes else with_node (with_fields (λ fields. fields ++ added_field name t always ∷ [])) nodes n

-- ---- a line of the report

pub record Line : Type 0 where
  pub id : List ℕ
  pub value : Tree
  pub opening : Bool

-- a field is shown where its value isn't its kind's opening value
abbrev pub line_of : Field → Line
line_of f = record { id = f.id; value = f.value; opening = same_tree f.value f.opening }

abbrev pub line_at : List Node → ℕ → ℕ → Option Line
line_at nodes n at = option_map line_of (slice_get (fields_of nodes n) at)
