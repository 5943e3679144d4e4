use Rattle.std.proofs.Common.{take}
use Rattle.script_faults.specs.Rows.{Each, IsOfBase}
use Rattle.script_faults.proofs.rows.rows_of.Given as goal

abbrev pub invariant-loop-base : goal.invariant-loop-base
invariant-loop-base l = Each IsOfBase l.rows.items (take l.base-index l.bases)
