-- Rows of a table of kinds: the functions of each kind's own scripts, and the place of its base.
use Rattle.std.specs.Prelude.{◌≡◌, ℕ, zero, suc, Bool, false, ◌||◌, not, List, [], ◌∷◌, Option, Some, None, slice_get, map, length}
use Rattle.std.specs.List.{flat_map}
use Rattle.chan_values.specs.declared.folder_fault.FolderFault.{FolderFault}
use Rattle.folder_rules.specs.declared.component.PathedComponent.{PathedComponent}
use Rattle.folder_rules.specs.declared.names.NameTable.{NameTable}
use Rattle.folder_rules.specs.Faults.{fault_on, fault_where}
use Rattle.folder_rules.specs.Kinds.{Kind, base_name, component_name}
use Rattle.folder_rules.specs.Names.{is_among, is_known, place_of, number_in}
use Rattle.folder_rules.specs.ScriptFaults.{NamedFunction, named_functions}
use Rattle.folder_rules.specs.Scripts.{Source, Function, own_functions, component_named}
use Rattle.script_faults.specs.declared.rows.KindFunctions.{KindFunctions}

abbrev pub row_at : List KindFunctions → Option ℕ → Option KindFunctions
row_at rows None = None
row_at rows (Some place) = slice_get rows place

abbrev pub where_there : Option KindFunctions → (KindFunctions → Bool) → Bool
where_there None test = false
where_there (Some row) test = test row

-- whether the scripts of the kind at a place, or of one of the kinds that it leads to by bases, at most n of them in all, have a function of this name
abbrev pub has_function : ℕ → List KindFunctions → Option ℕ → List ℕ → Bool
has_function zero rows place name = false
has_function (suc n) rows place name = where_there (row_at rows place) (λ row. is_known row.names name || has_function n rows row.base name)

-- the place of a base in a list of names
abbrev pub base_place : List (List ℕ) → Option (List ℕ) → Option ℕ
base_place names None = None
base_place names (Some base) = place_of names base

-- the functions of the scripts of the components of a name
abbrev pub functions_named : List Source → List PathedComponent → List ℕ → List Function
functions_named sources components name = flat_map (own_functions sources) (component_named components name)

-- a row stands for a kind
pub record IsRow (sources : List Source) (components : List PathedComponent) (names : List (List ℕ)) (row : KindFunctions) (kind : Kind) : Type 0 where
  pub functions : (name : List ℕ) → is_known row.names name ≡ is_among (map (λ f. f.name) (functions_named sources components kind.name)) name
  pub base : row.base ≡ base_place names kind.base

-- a relation at each two items, one after another
abbrev pub Each : {A B : Type 0} → (A → B → Type 0) → List A → List B → Type 0
Each R [] [] = Unit {0}
Each R (x ∷ xs) (y ∷ ys) = R x y × Each R xs ys
Each R _ _ = ⊥

-- rows stand for kinds
abbrev pub AreRows : List Source → List PathedComponent → List (List ℕ) → List KindFunctions → List Kind → Type 0
AreRows sources components names rows kinds = Each (IsRow sources components names) rows kinds

-- a row has this base and no functions
pub record IsOfBase (row : KindFunctions) (place : Option ℕ) : Type 0 where
  pub functions : (name : List ℕ) → is_known row.names name ≡ false
  pub base : row.base ≡ place

-- the places of the bases of the built-in kinds
abbrev pub built_in_bases : List (Option ℕ)
built_in_bases = None ∷ (Some 0 ∷ (Some 1 ∷ (Some 1 ∷ (Some 1 ∷ (Some 1 ∷ (Some 1 ∷ (Some 0 ∷ (Some 0 ∷ []))))))))

-- a row has the functions of a component's own scripts, and the place that a table of names has for its base
pub record IsOfComponent (sources : List Source) (names : NameTable) (c : PathedComponent) (row : KindFunctions) : Type 0 where
  pub functions : (name : List ℕ) → is_known row.names name ≡ is_among (map (λ f. f.name) (own_functions sources c)) name
  pub base : row.base ≡ number_in names (base_name c)

-- a function that isn't there, where a test says which names are
abbrev pub unknown_by : (List ℕ → Bool) → List ℕ → NamedFunction → List FolderFault
unknown_by is_there path f = fault_where (not (is_there f.name)) (fault_on 17 path f.line f.name)

-- the faults of a component by rows
abbrev pub row_faults : NameTable → List KindFunctions → PathedComponent → List FolderFault
row_faults names rows c = flat_map (unknown_by (has_function (length rows) rows (number_in names (component_name c))) c.path) (named_functions c)
