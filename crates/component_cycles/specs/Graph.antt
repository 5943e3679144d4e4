-- Kinds by their places, and which of them name which.
use Rattle.std.specs.Prelude.{◌≡◌, ◌≢◌, ◌<◌, ◌≤◌, ◌++◌, ℕ, List, [], Option, Some, None, slice_get, slice_index, length, Contains, IsTrue}
use Rattle.folder_rules.specs.declared.component.PathedComponent.{PathedComponent}
use Rattle.folder_rules.specs.KindFaults.{named_kinds}
use Rattle.folder_rules.specs.Kinds.{component_name}
use Rattle.std.specs.List.{filter_map}
use Rattle.folder_rules.specs.declared.names.NameTable.{NameTable}
use Rattle.folder_rules.specs.Names.{is_among, number_in, place_of}
use Rattle.component_cycles.specs.declared.graph.NamedKinds.{NamedKinds}

abbrev pub places_in : Option NamedKinds → List ℕ
places_in None = []
places_in (Some row) = row.places.items

-- the places that the kind at a place names
abbrev pub named_at : List NamedKinds → ℕ → List ℕ
named_at graph place = places_in (slice_get graph place)

-- the kind at a place names the other
abbrev pub Names : List NamedKinds → ℕ → ℕ → Type 0
Names graph place other = Contains (named_at graph place) other

-- one step or more
pub data Leads (graph : List NamedKinds) : ℕ → ℕ → Type 0 where
  at_once : {place other : ℕ} → Names graph place other → Leads graph place other
  by_way_of : {place next other : ℕ} → Names graph place next → Leads graph next other → Leads graph place other

-- a component whose name has the one place names a kind that has the other
pub record ComponentNames (names : List (List ℕ)) (components : List PathedComponent) (place other : ℕ) : Type 0 where
  pub component : PathedComponent
  pub listed : Contains components component
  pub is_at : place_of names (component_name component) ≡ Some place
  pub kind : List ℕ
  pub names_it : IsTrue (is_among (named_kinds component) kind)
  pub kind_is_at : place_of names kind ≡ Some other

-- a graph has the steps of these components and no others
pub record HasStepsOf (names : List (List ℕ)) (components : List PathedComponent) (graph : List NamedKinds) : Type 0 where
  pub size : length graph ≡ length names
  pub only : (place other : ℕ) → Names graph place other → ComponentNames names components place other
  pub all : (place other : ℕ) → ComponentNames names components place other → Names graph place other

-- no kind names one of a lower number
abbrev pub Ascends : List NamedKinds → List ℕ → Type 0
Ascends graph numbers = (place other : ℕ) → Names graph place other → slice_index numbers place ≤ slice_index numbers other

-- the kind at one place, where there is one, names these places more, and the others name what they named
pub record HasMoreAt (place : ℕ) (more : List ℕ) (before after : List NamedKinds) : Type 0 where
  pub size : length after ≡ length before
  pub there : place < length before → named_at after place ≡ named_at before place ++ more
  pub others : (other : ℕ) → other ≢ place → named_at after other ≡ named_at before other

-- the kind that has the name of a component names what the component names more
pub record HasStepsMore (names : NameTable) (component : PathedComponent) (before after : List NamedKinds) : Type 0 where
  pub size : length after ≡ length before
  pub there : (place : ℕ) → number_in names (component_name component) ≡ Some place → place < length before
      → named_at after place ≡ named_at before place ++ filter_map (number_in names) (named_kinds component)
  pub others : (place : ℕ) → number_in names (component_name component) ≢ Some place → named_at after place ≡ named_at before place

-- a graph of so many kinds that name none
pub record IsWithoutSteps (kinds : ℕ) (graph : List NamedKinds) : Type 0 where
  pub size : length graph ≡ kinds
  pub none : (place : ℕ) → named_at graph place ≡ []

-- the name of a component has a place, which leads to itself
pub record LeadsBack (names : NameTable) (graph : List NamedKinds) (component : PathedComponent) : Type 0 where
  pub place : ℕ
  pub is_at : number_in names (component_name component) ≡ Some place
  pub back : Leads graph place place
