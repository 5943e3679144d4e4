use Rattle.std.proofs.Common.{sym, subst}
use Rattle.folder_rules.specs.FirstFault.{IsFirstWrong}
use Rattle.folder_rules.specs.KindFaults.{cycle_fault, IsInCycle}
use Rattle.folder_rules.specs.Kinds.{kind_names}
use Rattle.folder_rules.proofs.Found.{finds_weaker}
use Rattle.component_cycles.specs.Graph.{HasStepsOf, LeadsBack}
use Rattle.component_cycles.proofs.Ways.{cycle_leads_back, leads_back_cycle}
use Rattle.component_cycles.proofs.Wrong.{first_wrong_same}
use Rattle.component_cycles.proofs.cycles.check_cycles.Goals as goal

pub returns : goal.returns
returns c =
    let cs = c.args.components.now in
    let names = c.args.names.now in
    let graph = c.as_slice.result.now in
    let steps : HasStepsOf (kind_names cs) cs graph = subst (HasStepsOf (kind_names cs) cs) (sym c.as_slice.ensures.value) c.in_ok-graph.ensures in
    finds_weaker (IsFirstWrong (LeadsBack names graph) cycle_fault cs) (IsFirstWrong (IsInCycle cs) cycle_fault cs)
    (λ found w. first_wrong_same (LeadsBack names graph) (IsInCycle cs) cycle_fault (leads_back_cycle cs graph steps names c.requires) (cycle_leads_back cs graph steps names c.requires) cs found w)
    c.check_graph.result c.check_graph.ensures
