use Rattle.std.proofs.Common.{subst}
use Rattle.moving_instructions.proofs.Going.{if_ok_then}
use Rattle.return_instructions.specs.Departed.{Departs}
use Rattle.return_instructions.proofs.Returning.{ended}
use Rattle.return_instructions.proofs.returns.end_function.Goals as goal

pub returns-clause-ok : goal.returns-clause-ok
returns-clause-ok c =
    if_ok_then c.leave.result _ _
    (λ left departs. ended c.args.function.now c.args.heap.now c.leave.new.heap c.args.frames.now c.leave.new.frames left (subst (λ u. Departs u c.args.function.now.line c.args.heap.now c.args.frames.now c.leave.new.heap c.leave.new.frames left) c.plain.ensures departs))
    c.leave.ensures.departs
