use Rattle.std.proofs.Common.{arith}
use Rattle.tree_code.proofs.Callees.{named_more}
use Rattle.tree_code.proofs.file.file_drafts.Goals as goal

pub loop-named-preserved : goal.loop-named-preserved
loop-named-preserved c = named_more _ _ _ c.loop-named.named-index c.named-item.result _ (omega arith) c.named-item.is c.loop-named.invariant c.in_ok-named_draft.ensures c.in-Ok.ensures.ok
