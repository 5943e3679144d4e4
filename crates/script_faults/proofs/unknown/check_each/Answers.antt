use Rattle.std.proofs.Common.{◌<◌, length, arith}
use Rattle.std.proofs.lemmas.Result.{err_from_is_err_and}
use Rattle.folder_rules.proofs.Lists.{each_next}
use Rattle.component_faults.proofs.Turns.{turn_refused}
use Rattle.script_faults.specs.Rows.{row_faults}
use Rattle.script_faults.proofs.unknown.check_each.Goals as goal

pub returns-in_err-check_component : goal.returns-in_err-check_component
returns-in_err-check_component c =
    let here : c.loop-component.component-index < length c.args.components.now = omega arith in
    let p = err_from_is_err_and c.from_residual.result c.from_residual.ensures.1 in
    rw (p.1, p.2)
    (turn_refused (Unit {0}) (Unit {0}) (row_faults c.args.names.now c.args.rows.now) c.args.components.now c.loop-component.component-index c.component-item.result here c.component-item.is c.loop-component.invariant
    c.in_err-check_component.field-0.0 c.in_err-check_component.ensures)

pub loop-component-preserved : goal.loop-component-preserved
loop-component-preserved c =
    let here : c.loop-component.component-index < length c.args.components.now = omega arith in
    each_next (row_faults c.args.names.now c.args.rows.now) c.args.components.now c.loop-component.component-index c.component-item.result here c.component-item.is c.loop-component.invariant c.in_ok-check_component.ensures
