use Rattle.std.proofs.Common.{◌++◌, map, take}
use Rattle.folder_rules.specs.Kinds.{built_in_kinds, component_kind, kind_names}
use Rattle.script_faults.specs.Rows.{Each}
use Rattle.script_faults.specs.Sources.{all_sources}
use Rattle.kind_tables.specs.Rows.{IsRow}
use Rattle.kind_tables.proofs.kinds.kind_rows.Given as goal

abbrev pub invariant-loop-component : goal.invariant-loop-component
invariant-loop-component l = Each (IsRow (all_sources l.table) l.components (kind_names l.components)) l.rows.items (built_in_kinds ++ map component_kind (take l.component-index l.components))
