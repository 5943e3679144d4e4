-- Faults of the kinds of a channel: names that stand twice, bases and child kinds that are unknown, and components that are reached from themselves.
use Rattle.std.specs.Prelude.{◌≡◌, ℕ, Bool, not, List, [], ◌∷◌, ◌++◌, map, Contains, IsTrue}
use Rattle.std.specs.List.{flat_map}
use Rattle.chan_values.specs.Folded.{folded}
use Rattle.chan_values.specs.declared.folder_fault.FolderFault.{FolderFault}
use Rattle.folder_rules.specs.declared.component.PathedComponent.{PathedComponent}
use Rattle.folder_rules.specs.Names.{is_among}
use Rattle.folder_rules.specs.Kinds.{component_name, base_name, built_in_names, kind_names}
use Rattle.folder_rules.specs.Children.{ChildTag, child_tags}
use Rattle.folder_rules.specs.Faults.{fault_on, fault_where}

-- ---- a name of an earlier file's component or of a built-in kind

abbrev pub repeated_names : List (List ℕ) → List PathedComponent → List FolderFault
repeated_names before [] = []
repeated_names before (c ∷ cs) = fault_where (is_among before (component_name c)) (fault_on 9 c.path c.file.line (component_name c)) ++ repeated_names (before ++ component_name c ∷ []) cs

abbrev pub duplicate_components : List PathedComponent → List FolderFault
duplicate_components components = repeated_names built_in_names components

-- ---- a base that is neither a built-in kind nor a component

abbrev pub unknown_base : (List ℕ → Bool) → PathedComponent → List FolderFault
unknown_base is_kind c = fault_where (not (is_kind (base_name c))) (fault_on 10 c.path c.file.line (base_name c))

abbrev pub unknown_bases : List PathedComponent → List FolderFault
unknown_bases components = flat_map (unknown_base (is_among (kind_names components))) components

-- ---- a component reached from itself by bases and child kinds

-- the kinds that a component names: its base and the kinds of its child elements
abbrev pub named_kinds : PathedComponent → List (List ℕ)
named_kinds c = base_name c ∷ map (λ tag. folded tag.kind) (child_tags c.file.children)

-- the component of one name names the other
pub record Leads (components : List PathedComponent) (name other : List ℕ) : Type 0 where
  pub component : PathedComponent
  pub listed : Contains components component
  pub is_named : component_name component ≡ name
  pub names_it : IsTrue (is_among (named_kinds component) other)

-- one step or more
pub data Reaches (components : List PathedComponent) : List ℕ → List ℕ → Type 0 where
  at_once : {name other : List ℕ} → Leads components name other → Reaches components name other
  by_way_of : {name next other : List ℕ} → Leads components name next → Reaches components next other → Reaches components name other

abbrev pub IsInCycle : List PathedComponent → PathedComponent → Type 0
IsInCycle components c = Reaches components (component_name c) (component_name c)

abbrev pub cycle_fault : PathedComponent → FolderFault
cycle_fault c = fault_on 11 c.path c.file.line (component_name c)

-- ---- a child kind that is neither a built-in kind nor a component

abbrev pub unknown_child : (List ℕ → Bool) → List ℕ → ChildTag → List FolderFault
unknown_child is_kind path tag = fault_where (not (is_kind (folded tag.kind))) (fault_on 18 path tag.line (folded tag.kind))

abbrev pub unknown_children_in : (List ℕ → Bool) → PathedComponent → List FolderFault
unknown_children_in is_kind c = flat_map (unknown_child is_kind c.path) (child_tags c.file.children)

abbrev pub unknown_children : List PathedComponent → List FolderFault
unknown_children components = flat_map (unknown_children_in (is_among (kind_names components))) components
