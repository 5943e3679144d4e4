-- The fields of a kind's own, with the values that they have before anything is set.
use Rattle.std.specs.Prelude.{◌≡◌, ℕ, Bool, false, List, [], ◌∷◌, Option, Some, None}
use Rattle.std.specs.Borrow.{Bor}
use Rattle.std.specs.List.{AllByRecursion, flat_map}
use Rattle.chan_values.specs.Tree.{Tree}
use Rattle.chan_values.specs.View.{tree_of}
use Rattle.component_files.specs.declared.element.FieldElement.{FieldElement}
use Rattle.field_types.specs.NamedNodes.{nodes_in}
use Rattle.field_types.specs.Opening.{opening_of}
use Rattle.field_types.specs.Words.{type_words, type_beside}
use Rattle.field_types.specs.declared.plans.FieldPlan.{FieldPlan}
use Rattle.field_types.specs.declared.types.FieldType.{FieldType}
use Rattle.field_plans.specs.Values.{value_read}

-- a field with its id as declared, its type, whether a set of an equal value counts as a change, and its opening value
pub record OwnField : Type 0 where
  pub id : List ℕ
  pub holds : FieldType
  pub always : Bool
  pub opening : Tree

abbrev pub field_of : FieldPlan → OwnField
field_of f = record { id = f.id; holds = f.kind; always = f.always; opening = tree_of f.opening }

-- no opening value names a node
abbrev pub NameNoNodes : List FieldPlan → Type 0
NameNoNodes fields = AllByRecursion (λ f. nodes_in (tree_of f.opening) ≡ []) fields

abbrev pub value_or_usual : FieldType → Option Tree → Tree
value_or_usual holds None = opening_of holds
value_or_usual holds (Some v) = v

-- The value of a field before anything is set: that of its text, and the usual one of its type where there is no text, or none that the type reads.
abbrev pub first_value : FieldType → Option (List ℕ) → Tree
first_value holds None = opening_of holds
first_value holds (Some text) = value_or_usual holds (value_read holds text)

abbrev pub field_where : FieldElement → Option FieldType → List OwnField
field_where e None = []
field_where e (Some holds) = record { id = e.id; holds = holds; always = e.always; opening = first_value holds e.value } ∷ []

-- a field of an interface, where its word is a type
abbrev pub own_field : FieldElement → List OwnField
own_field e = field_where e (type_beside type_words e.word)

abbrev pub own_fields : List FieldElement → List OwnField
own_fields elements = flat_map own_field elements

-- a field that is told by its id, its type and the text of its opening value
abbrev pub told_field : List ℕ → FieldType → List ℕ → OwnField
told_field id holds text = record { id = id; holds = holds; always = false; opening = first_value holds (Some text) }

abbrev pub told_by : Bor (List ℕ) × FieldType × Bor (List ℕ) → OwnField
told_by word = told_field word.0.now word.1 word.2.now
