-- Components by their places, and which of them name which.
use Rattle.std.specs.Prelude.{◌<◌, ℕ, List, [], Option, Some, None, slice_get, map, Contains}
use Rattle.folder_rules.specs.declared.names.NameTable.{NameTable}
use Rattle.folder_rules.specs.Names.{number_in}
use Rattle.kind_order.specs.declared.named.NamedComponents.{NamedComponents}
use Rattle.kind_order.specs.Named.{behind_built_in}

-- the place that a table of names has for a component
abbrev pub place_in : NameTable → List ℕ → Option ℕ
place_in names name = behind_built_in (number_in names name)

abbrev pub places_in : Option NamedComponents → List ℕ
places_in None = []
places_in (Some row) = row.places.items

-- the places that the component at a place names
abbrev pub named_in : List NamedComponents → ℕ → List ℕ
named_in rows place = places_in (slice_get rows place)

abbrev pub places_of_rows : List NamedComponents → List (List ℕ)
places_of_rows rows = map (λ row. row.places.items) rows

-- one step or more from a place to another
pub data Leads (named : ℕ → List ℕ) : ℕ → ℕ → Type 0 where
  at_once : {place other : ℕ} → Contains (named place) other → Leads named place other
  by_way_of : {place next other : ℕ} → Contains (named place) next → Leads named next other → Leads named place other

-- only places below a count are named, and none leads to itself
pub record IsWithoutCycle (count : ℕ) (named : ℕ → List ℕ) : Type 0 where
  pub inside : (place other : ℕ) → Contains (named place) other → other < count
  pub no_way_back : (place : ℕ) → Leads named place place → ⊥
