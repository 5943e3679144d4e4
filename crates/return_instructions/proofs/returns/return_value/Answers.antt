use Rattle.std.proofs.Common.{subst}
use Rattle.moving_instructions.proofs.Going.{if_ok_then}
use Rattle.typed_values.specs.Taken.{Takes}
use Rattle.return_instructions.proofs.Returning.{value_returned, return_refused}
use Rattle.return_instructions.proofs.returns.return_value.Goals as goal

pub returns-in-Some-clause-ok : goal.returns-in-Some-clause-ok
returns-in-Some-clause-ok c =
    let takes = subst (λ r. Takes c.args.function.now.value c.args.heap.now c.args.frames.now c.take_typed.new.heap c.take_typed.new.frames r) c.in-Some.is c.take_typed.ensures.takes in
    if_ok_then c.leave.result _ _
    (λ left departs. value_returned c.args.function.now c.args.line c.args.heap.now c.take_typed.new.heap c.leave.new.heap c.args.frames.now c.take_typed.new.frames c.leave.new.frames c.in-Some.v left c.requires.operand takes c.take_typed.ensures.frames departs)
    c.leave.ensures.departs

pub returns-in-None-clause-ok : goal.returns-in-None-clause-ok
returns-in-None-clause-ok c =
    let takes = subst (λ r. Takes c.args.function.now.value c.args.heap.now c.args.frames.now c.take_typed.new.heap c.take_typed.new.frames r) c.in-None.is c.take_typed.ensures.takes in
    return_refused c.args.function.now c.args.line c.args.heap.now c.take_typed.new.heap c.args.frames.now c.take_typed.new.frames c.requires.operand takes c.take_typed.ensures.frames
