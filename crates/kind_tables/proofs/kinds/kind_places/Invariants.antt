use Rattle.std.proofs.Common.{◌≡◌, ◌++◌, List, ℕ, map, take}
use Rattle.folder_rules.specs.Kinds.{built_in_names, component_name}
use Rattle.folder_rules.specs.Names.{place_of}
use Rattle.ordered_names.specs.Values.{value_in}
use Rattle.kind_tables.proofs.kinds.kind_places.Given as goal

abbrev pub invariant-loop-i : goal.invariant-loop-i
invariant-loop-i l = (name : List ℕ) → value_in l.names name ≡ place_of (built_in_names ++ map component_name (take l.i l.components)) name
