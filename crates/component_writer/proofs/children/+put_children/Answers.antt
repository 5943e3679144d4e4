use Rattle.std.proofs.Common.{arith}
use Rattle.component_writer.proofs.Joins.{none_left, first_left, one_more}
use Rattle.component_writer.proofs.children.+put_children.Goals as goal

pub loop-left-preserved : goal.loop-left-preserved
loop-left-preserved t c =
    one_more _ _ _ _ _ c.child-item.result c.loop-left.left.now _ _ (omega arith)
    (first_left c.loop-left.left.now c.child-item.result c.in-len1-up.len_at_least c.child-item.is)
    c.in_ok-put_start.ensures c.in_ok-put_children.ensures c.in_ok-put_end.ensures c.loop-left.invariant

pub returns : goal.returns
returns t c = none_left _ _ _ _ c.in_default.len_below c.loop-left.invariant
