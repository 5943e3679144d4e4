use Rattle.std.proofs.Common.{◌≡◌, ◌++◌, map, take, drop}
use Rattle.folder_rules.specs.Faults.{first}
use Rattle.folder_rules.specs.KindFaults.{repeated_names, duplicate_components}
use Rattle.folder_rules.specs.Kinds.{built_in_names, component_name}
use Rattle.folder_rules.specs.Names.{HasPlaces}
use Rattle.component_faults.proofs.names.kind_table.Given as goal

abbrev pub invariant-loop-i : goal.invariant-loop-i
invariant-loop-i l = record {
  table : HasPlaces l.names (built_in_names ++ map component_name (take l.i l.components));
  left : first (repeated_names (built_in_names ++ map component_name (take l.i l.components)) (drop l.i l.components)) ≡ first (duplicate_components l.components);
}
