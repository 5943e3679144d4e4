-- What the tags of a component file say.
use Rattle.std.specs.Prelude.{ℕ, Bool, true, false, not, ◌||◌, ◌&&◌, ◌==◌, if◌then◌else◌, List, [], ◌∷◌, codes, Some, None, Option, is_some}
use Rattle.std.specs.List.{list_any}
use Rattle.std.specs.Str.{bytes_eq, str_eq_ignore_ascii_case}
use Rattle.xml_pieces.specs.declared.piece.AttributeText.{AttributeText}
use Rattle.xml_pieces.specs.declared.piece.Tag.{Tag}
use Rattle.xml_pieces.specs.Written.{has_name, is_empty}
use Rattle.xml_pieces.specs.Reading.{bind}
use Rattle.component_files.specs.declared.place.Place.{Place}
use Rattle.component_files.specs.declared.element.ComponentFile.{ComponentFile}
use Rattle.component_files.specs.declared.element.FieldElement.{FieldElement}
use Rattle.component_files.specs.declared.element.FunctionElement.{FunctionElement}
use Rattle.component_files.specs.declared.element.ScriptElement.{ScriptElement}
use Rattle.component_files.specs.declared.element.ChildElement.{ChildElement, roll-ChildElement}
use Rattle.component_files.specs.declared.stack.OpenChild.{OpenChild}

-- names as written
abbrev pub same : List ℕ → List ℕ → Bool
same = bytes_eq

-- names, the case of ASCII letters aside
abbrev pub alike : List ℕ → List ℕ → Bool
alike = str_eq_ignore_ascii_case

-- the value of the attribute of a name
abbrev pub value_of : List AttributeText → List ℕ → Option (List ℕ)
value_of [] name = None
value_of (a ∷ more) name = if same a.name name then Some a.value else value_of more name

abbrev pub filled : Option (List ℕ) → Option (List ℕ)
filled None = None
filled (Some v) = if is_empty v then None else Some v

-- a value that has to be there and not to be empty
unfoldable pub needed : List AttributeText → List ℕ → Option (List ℕ)
needed attributes name = filled (value_of attributes name)

abbrev pub or_else : Option (List ℕ) → List ℕ → List ℕ
or_else (Some v) other = v
or_else None other = other

-- the component that a file extends that names none
abbrev pub group : List ℕ
group = codes "Group"

-- what a component's tag says
unfoldable pub header : Tag → Place → Option ComponentFile
header t place = bind (needed t.attributes (codes "name")) (λ name. Some (record {
  name = name;
  extends = or_else (value_of t.attributes (codes "extends")) group;
  fields = [];
  functions = [];
  scripts = [];
  children = [];
  line = place.line;
  column = place.column;
}))

-- a truth value that is written out, false where there is none
abbrev pub truth : Option (List ℕ) → Option Bool
truth None = Some false
truth (Some v) = if same v (codes "true") then Some true else if same v (codes "false") then Some false else None

-- what a field's tag says
unfoldable pub field : Tag → Place → Option FieldElement
field t place =
    bind (needed t.attributes (codes "id")) (λ id. bind (needed t.attributes (codes "type")) (λ word. bind (truth (value_of t.attributes (codes "alwaysNotify"))) (λ always.
    if has_name t.attributes (codes "alias") then None
    else Some (record {
      id = id;
      word = word;
      value = value_of t.attributes (codes "value");
      always = always;
      on_change = value_of t.attributes (codes "onChange");
      line = place.line;
      column = place.column;
    }))))

-- what a function's tag says
unfoldable pub function : Tag → Place → Option FunctionElement
function t place = bind (needed t.attributes (codes "name")) (λ name. Some (record { name = name; line = place.line; column = place.column }))

-- what a script's tag says
abbrev pub script : Tag → Place → ScriptElement
script t place = record { uri = value_of t.attributes (codes "uri"); inline = None; line = place.line; column = place.column }

abbrev pub is_whole : ScriptElement → Bool
is_whole s = is_some s.uri || is_some s.inline

-- ---- children

abbrev pub has_alike : List AttributeText → List ℕ → Bool
has_alike all name = list_any (λ a. alike a.name name) all

-- no two attributes have one name, case aside
abbrev pub are_unlike : List AttributeText → Bool
are_unlike [] = true
are_unlike (a ∷ more) = not (has_alike more a.name) && are_unlike more

abbrev pub has_colon : List ℕ → Bool
has_colon name = list_any (λ b. b == 58) name

-- the attributes that are read: those with a colon are passed over
abbrev pub without_colons : List AttributeText → List AttributeText
without_colons [] = []
without_colons (a ∷ more) = if has_colon a.name then without_colons more else a ∷ without_colons more

abbrev pub opening_child : Tag → Place → OpenChild
opening_child t place = record { kind = t.name; attributes = without_colons t.attributes; children = []; line = place.line; column = place.column }

abbrev pub child : OpenChild → List ChildElement → ChildElement
child o children = roll-ChildElement (record { kind = o.kind; attributes = o.attributes; children = children; line = o.line; column = o.column })
