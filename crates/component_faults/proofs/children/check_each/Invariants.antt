use Rattle.component_faults.proofs.Turns.{Left}
use Rattle.folder_rules.specs.KindFaults.{unknown_children_in}
use Rattle.folder_rules.specs.Names.{is_known}
use Rattle.component_faults.proofs.children.check_each.Given as goal

abbrev pub invariant-loop-component : goal.invariant-loop-component
invariant-loop-component l = Left (unknown_children_in (is_known l.names)) l.components l.component-index
