-- What the attributes of a child element give the fields of its node.
use Rattle.std.specs.Prelude.{ℕ, List, [], ◌∷◌, Option, Some, None}
use Rattle.chan_values.specs.Folded.{folded}
use Rattle.chan_values.specs.Tree.{Tree}
use Rattle.chan_values.specs.View.{tree_of}
use Rattle.xml_pieces.specs.declared.piece.AttributeText.{AttributeText}
use Rattle.field_types.specs.declared.plans.AttributeValue.{AttributeValue}
use Rattle.field_types.specs.declared.types.FieldType.{FieldType}
use Rattle.folder_rules.specs.FieldFaults.{type_of}
use Rattle.folder_rules.specs.Kinds.{Kind, field_named, field_table}
use Rattle.field_plans.specs.Values.{value_read}

-- a field, with its name as written, and the value that it is given
pub record Given : Type 0 where
  pub field : List ℕ
  pub value : Tree

abbrev pub given_of : AttributeValue → Given
given_of v = record { field = v.field; value = tree_of v.value }

abbrev pub given_where : List ℕ → Option Tree → List Given
given_where field None = []
given_where field (Some value) = record { field = field; value = value } ∷ []

-- an attribute gives a field of a type the value that the type reads, and nothing where there is none
abbrev pub given : Option FieldType → AttributeText → List Given
given None a = []
given (Some holds) a = given_where a.name (value_read holds a.value)

-- what an attribute gives where the element is of a kind: the field is one of that kind, bases included
abbrev pub given_by : List Kind → List ℕ → AttributeText → List Given
given_by kinds kind a = given (type_of (field_named (field_table kinds kind) (folded a.name))) a
