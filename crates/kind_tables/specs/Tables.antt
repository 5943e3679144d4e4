-- What tables tell, and when they are those of a channel.
use Rattle.std.specs.Prelude.{◌≡◌, ℕ, Bool, List, [], ◌∷◌, Option, Some, None, codes, length}
use Rattle.std.specs.Map.{keys_of}
use Rattle.chan_values.specs.Folded.{folded}
use Rattle.folder_rules.specs.declared.component.PathedComponent.{PathedComponent}
use Rattle.folder_rules.specs.declared.source.SourceFunctions.{SourceFunctions}
use Rattle.ordered_names.specs.Values.{value_of}
use Rattle.kind_tables.specs.Ascending.{name_at}
use Rattle.kind_tables.specs.Rows.{row_at, rows_from, number_along, handler_along, interface_along, names_along}
use Rattle.kind_tables.specs.Scopes as scopes
use Rattle.kind_tables.specs.declared.rows.KindRow.{KindRow}
use Rattle.kind_tables.specs.declared.tables.Tables.{Tables}

-- the row of a kind that stands folded
abbrev pub row_of : Tables → List ℕ → Option KindRow
row_of tables kind = row_at tables.rows.items (value_of tables.places kind)

-- the row of a kind that stands folded, that of its base, and so on
abbrev pub rows_of : Tables → List ℕ → List KindRow
rows_of tables kind = rows_from (length tables.rows.items) tables.rows.items (value_of tables.places kind)

abbrev pub row_base : Option KindRow → Option (List ℕ)
row_base None = None
row_base (Some row) = row.base_name

abbrev pub row_init : Option KindRow → Option ℕ
row_init None = None
row_init (Some row) = value_of row.functions (codes "init")

abbrev pub joined : {A : Type 0} → Option (Option A) → Option A
joined None = None
joined (Some found) = found

abbrev pub base_in : Tables → List ℕ → Option (List ℕ)
base_in tables kind = row_base (row_of tables (folded kind))

abbrev pub own_init_in : Tables → List ℕ → Option ℕ
own_init_in tables kind = row_init (row_of tables (folded kind))

abbrev pub function_in : Tables → List ℕ → List ℕ → Option ℕ
function_in tables [] name = value_of tables.source (folded name)
function_in tables (b ∷ bs) name = number_along (rows_of tables (folded (b ∷ bs))) (folded name)

abbrev pub on_change_in : Tables → List ℕ → List ℕ → Option (List ℕ)
on_change_in tables kind id = joined (handler_along (rows_of tables (folded kind)) (folded id))

abbrev pub has_interface_in : Tables → List ℕ → List ℕ → Bool
has_interface_in tables kind name = interface_along (rows_of tables (folded kind)) (folded name)

abbrev pub kind_at_in : Tables → ℕ → Option (List ℕ)
kind_at_in tables at = name_at at (keys_of tables.components)

abbrev pub scope_name_in : Tables → List ℕ → ℕ → Option (List ℕ)
scope_name_in tables [] at = name_at at (keys_of tables.source)
scope_name_in tables (b ∷ bs) at = name_at at (names_along (rows_of tables (folded (b ∷ bs))))

-- tables are those of components and source texts: each call on them answers what these say
pub record AreTablesOf (components : List PathedComponent) (sources : List SourceFunctions) (tables : Tables) : Type 0 where
  pub base : (kind : List ℕ) → base_in tables kind ≡ scopes.base components kind
  pub own_init : (kind : List ℕ) → own_init_in tables kind ≡ scopes.own_init components sources kind
  pub function : (kind name : List ℕ) → function_in tables kind name ≡ scopes.function components sources kind name
  pub on_change : (kind id : List ℕ) → on_change_in tables kind id ≡ scopes.on_change components kind id
  pub has_interface : (kind name : List ℕ) → has_interface_in tables kind name ≡ scopes.has_interface components kind name
  pub kind_at : (at : ℕ) → kind_at_in tables at ≡ scopes.kind_at components at
  pub scope_name : (kind : List ℕ) (at : ℕ) → scope_name_in tables kind at ≡ scopes.scope_name components sources kind at
