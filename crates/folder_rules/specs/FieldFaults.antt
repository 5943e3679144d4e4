-- Faults of fields: ids that stand twice, words that are no type, and texts that a field's type doesn't read.
use Rattle.std.specs.Prelude.{ℕ, Bool, ◌||◌, List, [], ◌∷◌, ◌++◌, Option, Some, None, is_none, map}
use Rattle.std.specs.List.{flat_map}
use Rattle.chan_values.specs.Folded.{folded}
use Rattle.chan_values.specs.Tree.{Tree}
use Rattle.chan_values.specs.declared.folder_fault.FolderFault.{FolderFault}
use Rattle.xml_pieces.specs.declared.piece.AttributeText.{AttributeText}
use Rattle.component_files.specs.declared.element.FieldElement.{FieldElement}
use Rattle.field_types.specs.Attribute.{Reads}
use Rattle.field_types.specs.Words.{type_words, type_beside}
use Rattle.field_types.specs.declared.types.FieldType.{FieldType}
use Rattle.folder_rules.specs.declared.component.PathedComponent.{PathedComponent}
use Rattle.folder_rules.specs.Names.{is_among}
use Rattle.folder_rules.specs.Kinds.{Field, Kind, base_name, all_kinds, field_table, field_named}
use Rattle.folder_rules.specs.Children.{ChildTag, child_tags}
use Rattle.folder_rules.specs.Faults.{fault_on, fault_where, is_before, in_order}

-- ---- an id already among the component's fields or its base's

-- whether a field is inherited says the test; these are the ids of the fields before
abbrev pub repeated_ids : (List ℕ → Bool) → List ℕ → List (List ℕ) → List FieldElement → List FolderFault
repeated_ids is_inherited path before [] = []
repeated_ids is_inherited path before (e ∷ es) =
    fault_where (is_inherited (folded e.id) || is_among before (folded e.id)) (fault_on 14 path e.line (folded e.id))
    ++ repeated_ids is_inherited path (before ++ folded e.id ∷ []) es

abbrev pub inherited_ids : List Kind → PathedComponent → List (List ℕ)
inherited_ids kinds c = map (λ f. f.id) (field_table kinds (base_name c))

abbrev pub duplicate_fields_in : List Kind → PathedComponent → List FolderFault
duplicate_fields_in kinds c = repeated_ids (is_among (inherited_ids kinds c)) c.path [] c.file.fields

abbrev pub duplicate_fields : List PathedComponent → List FolderFault
duplicate_fields components = flat_map (duplicate_fields_in (all_kinds components)) components

-- ---- a type word outside the table of types

unfoldable pub bad_type : List ℕ → FieldElement → List FolderFault
bad_type path e = fault_where (is_none (type_beside type_words e.word)) (fault_on 15 path e.line (folded e.id))

abbrev pub bad_types_in : PathedComponent → List FolderFault
bad_types_in c = flat_map (bad_type c.path) c.file.fields

abbrev pub bad_types : List PathedComponent → List FolderFault
bad_types components = flat_map bad_types_in components

-- ---- a value text that its field's type doesn't read, in a field or in an attribute of a child of a known kind

-- a text for a field of a type, and the place of the tag in which it stands
pub record ValueText : Type 0 where
  pub path : List ℕ
  pub line : ℕ
  pub column : ℕ
  pub id : List ℕ
  pub holds : FieldType
  pub text : List ℕ

-- where the type is known and there is a text
abbrev pub text_for : List ℕ → ℕ → ℕ → List ℕ → Option FieldType → Option (List ℕ) → List ValueText
text_for path line column id (Some holds) (Some text) = record { path = path; line = line; column = column; id = id; holds = holds; text = text } ∷ []
text_for path line column id _ _ = []

abbrev pub field_text : List ℕ → FieldElement → List ValueText
field_text path e = text_for path e.line e.column (folded e.id) (type_beside type_words e.word) e.value

abbrev pub type_of : Option Field → Option FieldType
type_of None = None
type_of (Some f) = f.holds

-- an attribute whose name is a field of the child's kind, bases included
abbrev pub attribute_text : List Field → List ℕ → ChildTag → AttributeText → List ValueText
attribute_text fields path tag a = text_for path tag.line tag.column (folded a.name) (type_of (field_named fields (folded a.name))) (Some a.value)

abbrev pub tag_texts : List Kind → List ℕ → ChildTag → List ValueText
tag_texts kinds path tag = flat_map (attribute_text (field_table kinds (folded tag.kind)) path tag) tag.attributes

abbrev pub is_earlier_text : ValueText → ValueText → Bool
is_earlier_text a b = is_before (a.line, a.column) (b.line, b.column)

-- all texts of a component, by the place of the tag and then of the attribute
abbrev pub component_texts : List Kind → PathedComponent → List ValueText
component_texts kinds c = in_order is_earlier_text (flat_map (field_text c.path) c.file.fields ++ flat_map (tag_texts kinds c.path) (child_tags c.file.children))

abbrev pub all_texts : List PathedComponent → List ValueText
all_texts components = flat_map (component_texts (all_kinds components)) components

abbrev pub IsUnread : ValueText → Type 0
IsUnread v = (value : Tree) → Reads v.holds v.text value → ⊥

abbrev pub unread_fault : ValueText → FolderFault
unread_fault v = fault_on 16 v.path v.line v.id
