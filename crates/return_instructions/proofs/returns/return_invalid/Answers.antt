use Rattle.std.proofs.Common.{subst}
use Rattle.moving_instructions.proofs.Going.{if_ok_then}
use Rattle.return_instructions.specs.Departed.{Departs}
use Rattle.return_instructions.proofs.Returning.{invalid_returned}
use Rattle.return_instructions.proofs.returns.return_invalid.Goals as goal

pub returns-clause-ok : goal.returns-clause-ok
returns-clause-ok c =
    if_ok_then c.leave.result _ _
    (λ left departs. invalid_returned c.args.line c.args.heap.now c.leave.new.heap c.args.frames.now c.leave.new.frames left (subst (λ u. Departs u c.args.line c.args.heap.now c.args.frames.now c.leave.new.heap c.leave.new.frames left) c.plain.ensures departs))
    c.leave.ensures.departs
