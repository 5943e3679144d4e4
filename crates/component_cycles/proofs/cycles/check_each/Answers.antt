use Rattle.std.proofs.Common.{◌<◌, ◌≤◌, length, arith}
use Rattle.std.proofs.lemmas.Result.{err_from_is_err_and}
use Rattle.folder_rules.specs.KindFaults.{cycle_fault}
use Rattle.component_cycles.specs.Graph.{LeadsBack}
use Rattle.component_cycles.proofs.Wrong.{wrong_next, wrong_refused, wrong_end}
use Rattle.component_cycles.proofs.cycles.check_each.Goals as goal

pub returns-in_err-check_component : goal.returns-in_err-check_component
returns-in_err-check_component c =
    let here : c.loop-component.component-index < length c.args.components.now = omega arith in
    let p = err_from_is_err_and c.from_residual.result c.from_residual.ensures.1 in
    rw (p.1, p.2)
    (wrong_refused (LeadsBack c.args.names.now c.args.graph.now) cycle_fault c.args.components.now c.loop-component.component-index (Unit {0}) (Unit {0}) c.component-item.result here c.component-item.is c.loop-component.invariant
    c.in_err-check_component.field-0.0 c.in_err-check_component.ensures)

pub loop-component-init : goal.loop-component-init
loop-component-init c = λ found f. f

pub loop-component-preserved : goal.loop-component-preserved
loop-component-preserved c =
    let here : c.loop-component.component-index < length c.args.components.now = omega arith in
    wrong_next (LeadsBack c.args.names.now c.args.graph.now) cycle_fault c.args.components.now c.loop-component.component-index c.component-item.result here c.component-item.is c.loop-component.invariant c.in_ok-check_component.ensures

pub returns : goal.returns
returns c =
    let done : length c.args.components.now ≤ c.loop-component.component-index = omega arith in
    wrong_end (LeadsBack c.args.names.now c.args.graph.now) cycle_fault c.args.components.now c.loop-component.component-index done c.loop-component.invariant
