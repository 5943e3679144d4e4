use Rattle.std.proofs.Common.{◌<◌, ◌≤◌, length, arith}
use Rattle.std.proofs.lemmas.Result.{err_from_is_err_and}
use Rattle.folder_rules.specs.FieldFaults.{unread_fault, IsUnread}
use Rattle.field_faults.specs.Values.{row_texts}
use Rattle.field_faults.proofs.Wrongs.{lists_next, lists_refused, lists_end}
use Rattle.field_faults.proofs.values.check_each.Goals as goal

pub returns-in_err-check_component : goal.returns-in_err-check_component
returns-in_err-check_component c =
    let here : c.loop-component.component-index < length c.args.components.now = omega arith in
    let p = err_from_is_err_and c.from_residual.result c.from_residual.ensures.1 in
    rw (p.1, p.2)
    (lists_refused IsUnread unread_fault (row_texts c.args.names.now c.args.rows.now) c.args.components.now c.loop-component.component-index (Unit {0}) (Unit {0}) c.component-item.result here c.component-item.is c.loop-component.invariant
    c.in_err-check_component.field-0.0 c.in_err-check_component.ensures)

pub loop-component-preserved : goal.loop-component-preserved
loop-component-preserved c =
    let here : c.loop-component.component-index < length c.args.components.now = omega arith in
    lists_next IsUnread unread_fault (row_texts c.args.names.now c.args.rows.now) c.args.components.now c.loop-component.component-index c.component-item.result here c.component-item.is c.loop-component.invariant c.in_ok-check_component.ensures

pub returns : goal.returns
returns c =
    let done : length c.args.components.now ≤ c.loop-component.component-index = omega arith in
    lists_end IsUnread unread_fault (row_texts c.args.names.now c.args.rows.now) c.args.components.now c.loop-component.component-index done c.loop-component.invariant

pub loop-component-init : goal.loop-component-init
loop-component-init c = λ found f. f
