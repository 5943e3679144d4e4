use Rattle.folder_rules.specs.KindFaults.{cycle_fault}
use Rattle.component_cycles.specs.Graph.{LeadsBack}
use Rattle.component_cycles.proofs.Wrong.{LeftWrong}
use Rattle.component_cycles.proofs.cycles.check_each.Given as goal

abbrev pub invariant-loop-component : goal.invariant-loop-component
invariant-loop-component l = LeftWrong (LeadsBack l.names l.graph) cycle_fault l.components l.component-index
