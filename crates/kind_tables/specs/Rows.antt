-- Rows of a table of kinds: what is a kind's own, and the place of its base.
use Rattle.std.specs.Prelude.{◌≡◌, ℕ, zero, suc, ◌+◌, ◌<◌, ◌≤◌, Bool, List, [], ◌∷◌, Option, Some, None, codes, is_some, length, map, slice_get}
use Rattle.std.specs.Borrow.{Bor}
use Rattle.std.specs.List.{AllByRecursion, flat_map, list_any}
use Rattle.std.specs.Map.{keys_of}
use Rattle.std.specs.Option.{option_map, option_or}
use Rattle.chan_values.specs.Folded.{folded}
use Rattle.component_files.specs.declared.element.FieldElement.{FieldElement}
use Rattle.component_files.specs.declared.element.FunctionElement.{FunctionElement}
use Rattle.folder_rules.specs.Kinds.{Kind, base_name}
use Rattle.folder_rules.specs.Names.{is_among, number_in}
use Rattle.folder_rules.specs.Scripts.{Source, Function, component_named, own_functions}
use Rattle.folder_rules.specs.declared.component.PathedComponent.{PathedComponent}
use Rattle.folder_rules.specs.declared.names.NameTable.{NameTable}
use Rattle.ordered_names.specs.Values.{value_of}
use Rattle.script_faults.specs.Rows.{base_place}
use Rattle.script_faults.specs.declared.functions.PlacedFunction.{PlacedFunction}
use Rattle.kind_tables.specs.declared.rows.KindRow.{KindRow}

-- ---- names with values

abbrev pub named_number : Function → List ℕ × ℕ
named_number f = (f.name, f.number)

-- the function that a field calls at its change
abbrev pub handler : FieldElement → Option (List ℕ)
handler e = option_map folded e.on_change

abbrev pub named_handler : FieldElement → List ℕ × Option (List ℕ)
named_handler e = (folded e.id, handler e)

abbrev pub interface_name : FunctionElement → List ℕ
interface_name f = folded f.name

-- ---- rows along bases

abbrev pub row_at : List KindRow → Option ℕ → Option KindRow
row_at rows None = None
row_at rows (Some place) = slice_get rows place

abbrev pub row_then : Option KindRow → (KindRow → List KindRow) → List KindRow
row_then None rest = []
row_then (Some row) rest = row ∷ rest row

-- the row at a place, that of its base, and so on, at most n of them
abbrev pub rows_from : ℕ → List KindRow → Option ℕ → List KindRow
rows_from zero rows place = []
rows_from (suc n) rows place = row_then (row_at rows place) (λ row. rows_from n rows row.base)

-- the number of a function: the first row that has it tells
abbrev pub number_along : List KindRow → List ℕ → Option ℕ
number_along [] name = None
number_along (r ∷ rs) name = option_or (value_of r.functions name) (number_along rs name)

-- the handler of a field, where there is such a field: the last row that has it tells
abbrev pub handler_along : List KindRow → List ℕ → Option (Option (List ℕ))
handler_along [] id = None
handler_along (r ∷ rs) id = option_or (handler_along rs id) (value_of r.handlers id)

-- whether a row has a function of an interface
abbrev pub interface_along : List KindRow → List ℕ → Bool
interface_along rows name = list_any (λ (r : KindRow). is_some (value_of r.interface name)) rows

-- the names of the functions of rows
abbrev pub names_along : List KindRow → List (List ℕ)
names_along rows = flat_map (λ (r : KindRow). keys_of r.functions) rows

-- ---- rows that stand for kinds

-- a row has what components have of their own
pub record HasOwn (sources : List Source) (components : List PathedComponent) (row : KindRow) : Type 0 where
  pub functions : (name : List ℕ) → value_of row.functions name ≡ value_of (map named_number (flat_map (own_functions sources) components)) name
  pub handlers : (id : List ℕ) → value_of row.handlers id ≡ value_of (map named_handler (flat_map (λ c. c.file.fields) components)) id
  pub interface : (name : List ℕ) → is_some (value_of row.interface name) ≡ is_among (flat_map (λ c. map interface_name c.file.functions) components) name

-- a row stands for a kind
pub record IsRow (sources : List Source) (components : List PathedComponent) (names : List (List ℕ)) (row : KindRow) (kind : Kind) : Type 0 where
  pub own : HasOwn sources (component_named components kind.name) row
  pub base_name_is : row.base_name ≡ kind.base
  pub base_is : row.base ≡ base_place names kind.base

-- a row has this base and nothing of its own
pub record IsBare (base : Option ℕ) (base_name : Option (List ℕ)) (row : KindRow) : Type 0 where
  pub functions : row.functions ≡ []
  pub handlers : row.handlers ≡ []
  pub interface : row.interface ≡ []
  pub base_name_is : row.base_name ≡ base_name
  pub base_is : row.base ≡ base

-- a row has nothing of its own, and the base of this place and name
abbrev pub IsOfBase : KindRow → Option (ℕ × List ℕ) → Type 0
IsOfBase row base = IsBare (option_map (λ b. b.0) base) (option_map (λ b. b.1) base) row

abbrev pub base_of : Option (ℕ × Bor (List ℕ)) → Option (ℕ × List ℕ)
base_of base = option_map (λ b. (b.0, b.1.now)) base

-- the bases of the built-in kinds
abbrev pub built_in_bases : List (Option (ℕ × List ℕ))
built_in_bases =
    None
    ∷ (Some (0, codes "node")
    ∷ (Some (1, codes "group")
    ∷ (Some (1, codes "group")
    ∷ (Some (1, codes "group")
    ∷ (Some (1, codes "group")
    ∷ (Some (1, codes "group")
    ∷ (Some (0, codes "node")
    ∷ (Some (0, codes "node")
    ∷ []))))))))

-- a row has what is a component's own, and the place that a table of names has for its base
pub record IsOfComponent (sources : List Source) (names : NameTable) (c : PathedComponent) (row : KindRow) : Type 0 where
  pub functions : (name : List ℕ) → value_of row.functions name ≡ value_of (map named_number (own_functions sources c)) name
  pub handlers : (id : List ℕ) → value_of row.handlers id ≡ value_of (map named_handler c.file.fields) id
  pub interface : (name : List ℕ) → is_some (value_of row.interface name) ≡ is_among (map interface_name c.file.functions) name
  pub base_name_is : row.base_name ≡ Some (base_name c)
  pub base_is : row.base ≡ number_in names (base_name c)

-- ---- numbers of functions

abbrev pub number : PlacedFunction → ℕ
number f = f.first + f.place

abbrev pub placed_number : PlacedFunction → List ℕ × ℕ
placed_number f = (f.declared.now.name, number f)

abbrev pub IsSmall : PlacedFunction → Type 0
IsSmall f = number f < 4294967296

-- the functions have numbers below 2^32
abbrev pub AreSmall : List Function → Type 0
AreSmall functions = AllByRecursion (λ f. f.number < 4294967296) functions

-- the functions of source texts have numbers below 2^32
abbrev pub AreFew : List Source → Type 0
AreFew sources = AllByRecursion (λ s. s.number + length s.text.functions ≤ 4294967296) sources
