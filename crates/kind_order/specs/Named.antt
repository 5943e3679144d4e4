-- Which components a component names. A component stands by its place among the components, counted from 0.
use Rattle.std.specs.Prelude.{ℕ, ◌-◌, nat_lt, if◌then◌else◌, List, [], Option, Some, None, slice_get, filter_map}
use Rattle.folder_rules.specs.declared.component.PathedComponent.{PathedComponent}
use Rattle.folder_rules.specs.KindFaults.{named_kinds}
use Rattle.folder_rules.specs.Kinds.{kind_names}
use Rattle.folder_rules.specs.Names.{place_of}

-- the place behind the nine built-in kinds, where it is behind them
abbrev pub behind_built_in : Option ℕ → Option ℕ
behind_built_in None = None
behind_built_in (Some place) = if nat_lt place 9 then None else Some (place - 9)

-- the place of the component that has a name
abbrev pub component_place : List PathedComponent → List ℕ → Option ℕ
component_place components name = behind_built_in (place_of (kind_names components) name)

-- the components that a component names: its base, and then the kinds of its child elements in the order in which they begin; built-in kinds are left out
abbrev pub named_components : List PathedComponent → PathedComponent → List ℕ
named_components components c = filter_map (component_place components) (named_kinds c)

abbrev pub named_of : List PathedComponent → Option PathedComponent → List ℕ
named_of components None = []
named_of components (Some c) = named_components components c

-- the components that the component at a place names, none past the end
abbrev pub named_at : List PathedComponent → ℕ → List ℕ
named_at components place = named_of components (slice_get components place)
