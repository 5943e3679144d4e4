-- Texts for fields by rows of kinds, and the first of them that is not read.
use Rattle.std.specs.Prelude.{◌≡◌, ◌⊎◌, ℕ, Bool, true, false, if◌then◌else◌, List, [], ◌∷◌, ◌++◌, Option, Some, None, map}
use Rattle.std.specs.List.{flat_map}
use Rattle.chan_values.specs.Folded.{folded}
use Rattle.chan_values.specs.Tree.{Tree}
use Rattle.chan_values.specs.declared.folder_fault.FolderFault.{FolderFault}
use Rattle.xml_pieces.specs.declared.piece.AttributeText.{AttributeText}
use Rattle.field_types.specs.Attribute.{Reads}
use Rattle.field_types.specs.declared.types.FieldType.{FieldType}
use Rattle.folder_rules.specs.declared.component.PathedComponent.{PathedComponent}
use Rattle.folder_rules.specs.declared.names.NameTable.{NameTable}
use Rattle.folder_rules.specs.Children.{ChildTag, child_tags}
use Rattle.folder_rules.specs.Faults.{fault_on, in_order, is_before}
use Rattle.folder_rules.specs.FieldFaults.{ValueText, text_for, field_text, is_earlier_text, IsUnread}
use Rattle.folder_rules.specs.Names.{number_in}
use Rattle.field_faults.specs.declared.rows.KindFields.{KindFields}
use Rattle.field_faults.specs.declared.values.Unread.{Unread}
use Rattle.field_faults.specs.Rows.{field_at}

-- ---- the texts of a component

abbrev pub type_there : Option (Option FieldType) → Option FieldType
type_there None = None
type_there (Some holds) = holds

-- the text of an attribute of an element whose kind stands at a place
abbrev pub attribute_text : List KindFields → Option ℕ → List ℕ → ChildTag → AttributeText → List ValueText
attribute_text rows place path tag a = text_for path tag.line tag.column (folded a.name) (type_there (field_at rows place (folded a.name))) (Some a.value)

abbrev pub tag_texts : NameTable → List KindFields → List ℕ → ChildTag → List ValueText
tag_texts names rows path tag = flat_map (attribute_text rows (number_in names (folded tag.kind)) path tag) tag.attributes

-- those of the fields, and then those of the child elements
abbrev pub texts_of : NameTable → List KindFields → List ℕ → PathedComponent → List ValueText
texts_of names rows path c = flat_map (field_text path) c.file.fields ++ flat_map (tag_texts names rows path) (child_tags c.file.children)

-- by the place of the tag and then of the attribute
abbrev pub row_texts : NameTable → List KindFields → PathedComponent → List ValueText
row_texts names rows c = in_order is_earlier_text (texts_of names rows c.path c)

-- ---- the first that is not read

-- whether the type reads the text
abbrev pub Says : FieldType → List ℕ → Bool → Type 0
Says holds text true = (value : Tree) × Reads holds text value
Says holds text false = (value : Tree) → Reads holds text value → ⊥

abbrev pub shown : ValueText → Unread
shown v = record { line = v.line; column = v.column; id = v.id }

-- the fault of a text in a file
abbrev pub fault_at : List ℕ → Unread → FolderFault
fault_at path u = fault_on 16 path u.line u.id

-- the earlier of two texts that are not read, of two at one place the one that was found first
abbrev pub earlier_of : Option Unread → Unread → Option Unread
earlier_of None next = Some next
earlier_of (Some first) next = if is_before (next.line, next.column) (first.line, first.column) then Some next else Some first

-- the earliest, where the others are found one after another
abbrev pub earliest : Option Unread → List Unread → Option Unread
earliest first [] = first
earliest first (next ∷ others) = earliest (earlier_of first next) others

-- of these texts the second are those that are not read, in the same order
abbrev pub AreUnread : List ValueText → List ValueText → Type 0
AreUnread [] unread = unread ≡ []
AreUnread (v ∷ texts) unread = (IsUnread v × (others : List ValueText) × (unread ≡ v ∷ others) × AreUnread texts others) ⊎ ((IsUnread v → ⊥) × AreUnread texts unread)

abbrev pub HavePath : List ℕ → List ValueText → Type 0
HavePath path [] = Unit {0}
HavePath path (v ∷ texts) = (v.path ≡ path) × HavePath path texts

-- these texts of a file were looked at
pub record LooksAt (path : List ℕ) (texts : List ValueText) (before after : Option Unread) : Type 0 where
  pub unread : List ValueText
  pub are : AreUnread texts unread
  pub paths : HavePath path unread
  pub is : after ≡ earliest before (map shown unread)
