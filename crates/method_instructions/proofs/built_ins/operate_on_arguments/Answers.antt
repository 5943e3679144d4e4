use Rattle.std.proofs.Common.{subst}
use Rattle.moving_instructions.proofs.Going.{if_ok_then}
use Rattle.method_instructions.specs.Operating.{OperatedOn}
use Rattle.method_instructions.proofs.built_ins.operate_on_arguments.Goals as goal

pub returns-clause-ok : goal.returns-clause-ok
returns-clause-ok c =
    if_ok_then c.operate.result _ _
    (λ effect done. subst (λ n. OperatedOn effect c.args.heap.now c.args.frames.now c.operate.new.heap c.operate.new.frames n c.args.count c.args.operation) c.with_callee-n.ensures done)
    c.operate.ensures.ok
