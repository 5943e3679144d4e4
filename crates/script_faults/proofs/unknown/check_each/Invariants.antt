use Rattle.script_faults.specs.Rows.{row_faults}
use Rattle.component_faults.proofs.Turns.{Left}
use Rattle.script_faults.proofs.unknown.check_each.Given as goal

abbrev pub invariant-loop-component : goal.invariant-loop-component
invariant-loop-component l = Left (row_faults l.names l.rows) l.components l.component-index
