use Rattle.std.proofs.Common.{arith}
use Rattle.code_drafts.proofs.Prints.{values_more}
use Rattle.code_drafts.proofs.lists.count_values.Goals as goal

pub loop-x-preserved : goal.loop-x-preserved
loop-x-preserved c = (values_more _ _ c.args.xs.now c.loop-x.x-index c.x-item.result (omega arith) c.x-item.is c.loop-x.invariant.0 c.value_count-values.ensures.is, omega arith)
