use Rattle.std.proofs.Common.{◌≡◌, List, ℕ, map, take}
use Rattle.folder_rules.specs.Kinds.{component_name}
use Rattle.ordered_names.specs.Values.{value_in, value_of}
use Rattle.kind_tables.proofs.kinds.component_names.Given as goal

abbrev pub invariant-loop-component : goal.invariant-loop-component
invariant-loop-component l = (name : List ℕ) → value_in l.names name ≡ value_of (map (λ c. (component_name c, tt {0})) (take l.component-index l.components)) name
