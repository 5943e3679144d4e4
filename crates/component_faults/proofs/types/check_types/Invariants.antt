use Rattle.component_faults.proofs.Turns.{Left}
use Rattle.folder_rules.specs.FieldFaults.{bad_types_in}
use Rattle.component_faults.proofs.types.check_types.Given as goal

abbrev pub invariant-loop-component : goal.invariant-loop-component
invariant-loop-component l = Left bad_types_in l.components l.component-index
