use Rattle.std.proofs.Common.{arith}
use Rattle.code_drafts.proofs.Prints.{marks_more}
use Rattle.code_drafts.proofs.lists.marks.Goals as goal

pub loop-x-preserved : goal.loop-x-preserved
loop-x-preserved c = marks_more _ _ c.args.xs.now c.loop-x.x-index c.x-item.result _ (omega arith) c.x-item.is c.loop-x.invariant c.mark.ensures c.in-Ok.ensures.ok
