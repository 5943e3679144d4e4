-- The kinds of a channel: those that are built in, and its components. Names of kinds and ids of fields stand folded.
use Rattle.std.specs.Prelude.{ℕ, zero, suc, if◌then◌else◌, List, [], ◌∷◌, ◌++◌, Option, Some, None, codes, map, length}
use Rattle.std.specs.Str.{bytes_eq}
use Rattle.chan_values.specs.Folded.{folded}
use Rattle.component_files.specs.declared.element.FieldElement.{FieldElement}
use Rattle.field_types.specs.declared.types.FieldType.{FieldType}
use Rattle.field_types.specs.declared.types.FieldType.TheVariants as t
use Rattle.field_types.specs.Words.{type_words, type_beside}
use Rattle.folder_rules.specs.declared.component.PathedComponent.{PathedComponent}

-- a field, and what it holds where its type word is one
pub record Field : Type 0 where
  pub id : List ℕ
  pub holds : Option FieldType

-- a kind, with its base and the fields of its own
pub record Kind : Type 0 where
  pub name : List ℕ
  pub base : Option (List ℕ)
  pub fields : List Field

-- ---- built-in kinds

abbrev pub field : List ℕ → FieldType → Field
field id holds = record { id = id; holds = Some holds }

abbrev pub kind : List ℕ → List ℕ → List Field → Kind
kind name base fields = record { name = name; base = Some base; fields = fields }

-- the kinds that every channel has
unfoldable pub built_in_kinds : List Kind
built_in_kinds =
    record { name = codes "node"; base = None; fields = field (codes "id") t.String ∷ field (codes "focusable") t.Boolean ∷ field (codes "focusedchild") t.Node ∷ [] }
    ∷ kind (codes "group") (codes "node") (field (codes "visible") t.Boolean ∷ [])
    ∷ kind (codes "layoutgroup") (codes "group") []
    ∷ kind (codes "scene") (codes "group") []
    ∷ kind (codes "label") (codes "group") (field (codes "text") t.String ∷ field (codes "color") t.String ∷ [])
    ∷ kind (codes "rectangle") (codes "group") (field (codes "width") t.Integer ∷ field (codes "height") t.Integer ∷ field (codes "color") t.String ∷ [])
    ∷ kind (codes "poster") (codes "group") (field (codes "uri") t.String ∷ field (codes "width") t.Integer ∷ field (codes "height") t.Integer ∷ [])
    ∷ kind (codes "contentnode") (codes "node") (field (codes "title") t.String ∷ field (codes "description") t.String ∷ field (codes "url") t.String ∷ [])
    ∷ kind (codes "task") (codes "node") (field (codes "functionname") t.String ∷ field (codes "control") t.String ∷ field (codes "state") t.String ∷ [])
    ∷ []

-- their names
unfoldable pub built_in_names : List (List ℕ)
built_in_names =
    codes "node"
    ∷ codes "group"
    ∷ codes "layoutgroup"
    ∷ codes "scene"
    ∷ codes "label"
    ∷ codes "rectangle"
    ∷ codes "poster"
    ∷ codes "contentnode"
    ∷ codes "task"
    ∷ []

-- ---- components

abbrev pub component_name : PathedComponent → List ℕ
component_name c = folded c.file.name

abbrev pub base_name : PathedComponent → List ℕ
base_name c = folded c.file.extends

-- a field of an interface
abbrev pub declared_field : FieldElement → Field
declared_field e = record { id = folded e.id; holds = type_beside type_words e.word }

abbrev pub component_kind : PathedComponent → Kind
component_kind c = kind (component_name c) (base_name c) (map declared_field c.file.fields)

-- all kinds of a channel
abbrev pub all_kinds : List PathedComponent → List Kind
all_kinds components = built_in_kinds ++ map component_kind components

-- their names
abbrev pub kind_names : List PathedComponent → List (List ℕ)
kind_names components = built_in_names ++ map component_name components

-- the first kind of a name
abbrev pub kind_named : List Kind → List ℕ → Option Kind
kind_named [] name = None
kind_named (k ∷ ks) name = if bytes_eq k.name name then Some k else kind_named ks name

-- ---- ancestry and fields

-- the kind of a name, where there is a name
abbrev pub kind_at : List Kind → Option (List ℕ) → Option Kind
kind_at kinds None = None
kind_at kinds (Some name) = kind_named kinds name

abbrev pub where_there : Option Kind → (Kind → List Kind) → List Kind
where_there None from = []
where_there (Some k) from = from k

-- a kind, its base, the base of that, and so on, at most n of them
abbrev pub ancestors : ℕ → List Kind → Option (List ℕ) → List Kind
ancestors zero kinds name = []
ancestors (suc n) kinds name = where_there (kind_at kinds name) (λ k. k ∷ ancestors n kinds k.base)

-- The ancestry of a kind. Where no kind is reached from itself it ends at Node, and is no longer than the list of all kinds.
abbrev pub ancestry : List Kind → List ℕ → List Kind
ancestry kinds name = ancestors (length kinds) kinds (Some name)

-- the fields of the first of these behind those of the others
abbrev pub fields_of : List Kind → List Field
fields_of [] = []
fields_of (k ∷ ks) = fields_of ks ++ k.fields

-- the field table of a kind: its base's, and then its own
abbrev pub field_table : List Kind → List ℕ → List Field
field_table kinds name = fields_of (ancestry kinds name)

-- the first field of an id
abbrev pub field_named : List Field → List ℕ → Option Field
field_named [] id = None
field_named (f ∷ fs) id = if bytes_eq f.id id then Some f else field_named fs id
