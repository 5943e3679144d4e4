use Rattle.std.proofs.Common.{map, take}
use Rattle.script_faults.specs.Rows.{Each}
use Rattle.kind_tables.specs.Rows.{IsOfBase, base_of}
use Rattle.kind_tables.proofs.kinds.rows_of.Given as goal

abbrev pub invariant-loop-base : goal.invariant-loop-base
invariant-loop-base l = Each IsOfBase l.rows.items (map base_of (take l.base-index l.bases))
