-- What a channel's components and source texts say of each kind. A kind, a function and a field are named in any case of their ASCII letters.
use Rattle.std.specs.Prelude.{ℕ, Bool, List, [], ◌∷◌, ◌++◌, Option, Some, None, codes, map, if◌then◌else◌}
use Rattle.std.specs.List.{flat_map}
use Rattle.std.specs.Option.{option_map}
use Rattle.std.specs.Str.{bytes_eq}
use Rattle.chan_values.specs.Folded.{folded}
use Rattle.component_files.specs.declared.element.FieldElement.{FieldElement}
use Rattle.component_files.specs.declared.element.FunctionElement.{FunctionElement}
use Rattle.folder_rules.specs.Kinds.{Kind, all_kinds, ancestry, component_name, kind_named}
use Rattle.folder_rules.specs.Names.{is_among}
use Rattle.folder_rules.specs.Scripts.{Function, component_named, function_named, numbered, own_functions, scope_of, source_functions}
use Rattle.folder_rules.specs.declared.component.PathedComponent.{PathedComponent}
use Rattle.folder_rules.specs.declared.source.SourceFunctions.{SourceFunctions}
use Rattle.kind_tables.specs.Ascending.{name_at}

-- the first field of an id
abbrev pub field_element : List FieldElement → List ℕ → Option FieldElement
field_element [] id = None
field_element (e ∷ es) id = if bytes_eq (folded e.id) id then Some e else field_element es id

-- the function that a field calls at its change
abbrev pub handler : Option FieldElement → Option (List ℕ)
handler None = None
handler (Some e) = option_map folded e.on_change

-- the number of a function
abbrev pub number_of : Option Function → Option ℕ
number_of found = option_map (λ f. f.number) found

-- the kind that a kind is based on
abbrev pub base_of : Option Kind → Option (List ℕ)
base_of None = None
base_of (Some kind) = kind.base

module _ (components : List PathedComponent) where
  -- ---- bases

  -- the kind that a kind is based on
  abbrev pub base : List ℕ → Option (List ℕ)
  base kind = base_of (kind_named (all_kinds components) (folded kind))

  -- ---- fields

  -- the fields of the interfaces of these kinds, those of the first behind those of the others
  abbrev pub fields_along : List Kind → List FieldElement
  fields_along [] = []
  fields_along (k ∷ ks) = fields_along ks ++ flat_map (λ c. c.file.fields) (component_named components k.name)

  -- the function that the field of an id calls at its change, of a kind and its bases
  abbrev pub on_change : List ℕ → List ℕ → Option (List ℕ)
  on_change kind id = handler (field_element (fields_along (ancestry (all_kinds components) (folded kind))) (folded id))

  -- ---- interfaces

  -- the functions of the interfaces of these kinds
  abbrev pub interface_along : List Kind → List (List ℕ)
  interface_along kinds = flat_map (λ k. flat_map (λ c. map (λ (f : FunctionElement). folded f.name) c.file.functions) (component_named components k.name)) kinds

  -- whether the interface of a kind, or of one of its bases, has a function
  abbrev pub has_interface : List ℕ → List ℕ → Bool
  has_interface kind name = is_among (interface_along (ancestry (all_kinds components) (folded kind))) (folded name)

  -- ---- components

  -- the components in ascending order of their names
  abbrev pub kind_at : ℕ → Option (List ℕ)
  kind_at at = name_at at (map component_name components)

module _ (components : List PathedComponent) (sources : List SourceFunctions) where
  -- ---- functions

  -- the functions in the scope of a kind; those of all files under `source` where no kind is named
  abbrev pub scope : List ℕ → List Function
  scope [] = source_functions (numbered 0 sources)
  scope (b ∷ bs) = scope_of components (numbered 0 sources) (b ∷ bs)

  -- the number of the function that a name reads as in the scope of a kind
  abbrev pub function : List ℕ → List ℕ → Option ℕ
  function kind name = number_of (function_named (scope (folded kind)) (folded name))

  -- the functions of the own scripts of a kind that is there
  abbrev pub kind_functions : Option Kind → List Function
  kind_functions None = []
  kind_functions (Some k) = flat_map (own_functions (numbered 0 sources)) (component_named components k.name)

  -- the function `init` of a kind's own scripts
  abbrev pub own_init : List ℕ → Option ℕ
  own_init kind = number_of (function_named (kind_functions (kind_named (all_kinds components) (folded kind))) (codes "init"))

  -- the names of a scope in ascending order
  abbrev pub scope_name : List ℕ → ℕ → Option (List ℕ)
  scope_name kind at = name_at at (map (λ f. f.name) (scope (folded kind)))
