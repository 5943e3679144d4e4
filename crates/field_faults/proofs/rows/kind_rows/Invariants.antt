use Rattle.std.proofs.Common.{◌++◌, map, take}
use Rattle.folder_rules.specs.Kinds.{built_in_kinds, component_kind, kind_names}
use Rattle.field_faults.specs.Rows.{AreRows}
use Rattle.field_faults.proofs.rows.kind_rows.Given as goal

abbrev pub invariant-loop-component : goal.invariant-loop-component
invariant-loop-component l = AreRows (kind_names l.components) l.rows.items (built_in_kinds ++ map component_kind (take l.component-index l.components))
