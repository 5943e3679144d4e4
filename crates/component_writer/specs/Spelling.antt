-- The spelling that a file is given, as pieces.
use Rattle.std.specs.Prelude.{ℕ, zero, suc, Bool, true, false, ◌==◌, if◌then◌else◌, List, [], ◌∷◌, ◌++◌, map, codes, Option, Some, None}
use Rattle.std.specs.List.{flat_map}
use Rattle.xml_pieces.specs.declared.piece.AttributeText.{AttributeText}
use Rattle.xml_pieces.specs.Written.{Stretch, Plain, Less, Ampersand, Quote, WrittenAttribute, WrittenTag, Written, Opening, Closing, Section}
use Rattle.component_files.specs.declared.element.ComponentFile.{ComponentFile}
use Rattle.component_files.specs.declared.element.FieldElement.{FieldElement}
use Rattle.component_files.specs.declared.element.FunctionElement.{FunctionElement}
use Rattle.component_files.specs.declared.element.InlineScript.{InlineScript}
use Rattle.component_files.specs.declared.element.ScriptElement.{ScriptElement}
use Rattle.component_files.specs.declared.element.ChildElement.{ChildElement, out-ChildElement}

-- ---- tags

-- <, & and the quote stand as entities, and every other byte for itself
abbrev pub stretch_of : ℕ → Stretch
stretch_of b = if b == 60 then Less else if b == 38 then Ampersand else if b == 34 then Quote else Plain b

abbrev pub written_attribute : AttributeText → WrittenAttribute
written_attribute a = record { gap = codes " "; name = a.name; before = []; after = []; quote = 34; value = map stretch_of a.value }

abbrev pub attribute_text : List ℕ → List ℕ → AttributeText
attribute_text name value = record { name = name; value = value }

abbrev pub optional : List ℕ → Option (List ℕ) → List AttributeText
optional name None = []
optional name (Some value) = attribute_text name value ∷ []

abbrev pub written_tag : List ℕ → List AttributeText → Bool → WrittenTag
written_tag name attributes empty = record { name = name; attributes = map written_attribute attributes; space = []; empty = empty }

-- a start tag, an empty tag and an end tag
abbrev pub start : List ℕ → List AttributeText → Written
start name attributes = Opening (written_tag name attributes false)

abbrev pub empty : List ℕ → List AttributeText → Written
empty name attributes = Opening (written_tag name attributes true)

abbrev pub end : List ℕ → Written
end name = Closing name []

-- ---- members of an interface

abbrev pub truth_word : Bool → List ℕ
truth_word true = codes "true"
truth_word false = codes "false"

-- the attributes of a field that may be absent
abbrev pub field_options : FieldElement → List AttributeText
field_options e = optional (codes "value") e.value ++ optional (codes "onChange") e.on_change

abbrev pub field_attributes : FieldElement → List AttributeText
field_attributes e =
    attribute_text (codes "id") e.id ∷ attribute_text (codes "type") e.word ∷ attribute_text (codes "alwaysNotify") (truth_word e.always) ∷ field_options e

unfoldable pub field_pieces : FieldElement → List Written
field_pieces e = empty (codes "field") (field_attributes e) ∷ []

abbrev pub function_attributes : FunctionElement → List AttributeText
function_attributes e = attribute_text (codes "name") e.name ∷ []

unfoldable pub function_pieces : FunctionElement → List Written
function_pieces e = empty (codes "function") (function_attributes e) ∷ []

abbrev pub member_pieces : ComponentFile → List Written
member_pieces file = flat_map field_pieces file.fields ++ flat_map function_pieces file.functions

-- an element of a name, with pieces inside
abbrev pub around : List ℕ → List AttributeText → List Written → List Written
around name attributes inside = start name attributes ∷ (inside ++ end name ∷ [])

unfoldable pub interface_pieces : ComponentFile → List Written
interface_pieces file = around (codes "interface") [] (member_pieces file)

-- ---- scripts

abbrev pub inline_pieces : Option InlineScript → List Written
inline_pieces None = []
inline_pieces (Some d) = Section d.text ∷ []

unfoldable pub script_pieces : ScriptElement → List Written
script_pieces s = around (codes "script") (optional (codes "uri") s.uri) (inline_pieces s.inline)

-- ---- children

unfoldable pub start_piece : ChildElement → Written
start_piece c = start (out-ChildElement c).kind (out-ChildElement c).attributes

unfoldable pub end_piece : ChildElement → Written
end_piece c = end (out-ChildElement c).kind

abbrev pub child_pieces : (List ChildElement → List Written) → ChildElement → List Written
child_pieces inner c = start_piece c ∷ (inner (out-ChildElement c).children ++ end_piece c ∷ [])

-- so many levels at most
unfoldable pub children_pieces : ℕ → List ChildElement → List Written
children_pieces zero cs = []
children_pieces (suc n) cs = flat_map (child_pieces (children_pieces n)) cs

unfoldable pub children_part : List ChildElement → List Written
children_part cs = around (codes "children") [] (children_pieces 64 cs)

-- ---- the file

abbrev pub header_attributes : ComponentFile → List AttributeText
header_attributes file = attribute_text (codes "name") file.name ∷ attribute_text (codes "extends") file.extends ∷ []

unfoldable pub header_pieces : ComponentFile → List Written
header_pieces file = start (codes "component") (header_attributes file) ∷ []

abbrev pub body_pieces : ComponentFile → List Written
body_pieces file = interface_pieces file ++ (flat_map script_pieces file.scripts ++ children_part file.children)

unfoldable pub file_pieces : ComponentFile → List Written
file_pieces file = around (codes "component") (header_attributes file) (body_pieces file)
