use Rattle.moving_instructions.proofs.Going.{if_ok_then}
use Rattle.method_instructions.proofs.Calls.{built_in_is_called}
use Rattle.method_instructions.proofs.built_ins.call_built_in.Goals as goal

pub returns-clause-ok : goal.returns-clause-ok
returns-clause-ok c =
    if_ok_then c.operate_on_arguments.result _ _
    (λ effect done.
    built_in_is_called c.args.heap.now c.args.frames.now c.operate_on_arguments.new.heap c.operate_on_arguments.new.frames c.args.count c.args.operation effect c.requires.operands done)
    c.operate_on_arguments.ensures.ok
