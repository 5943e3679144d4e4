use Rattle.std.proofs.Common.{length}
use Rattle.kind_order.specs.Graph.{named_in}
use Rattle.kind_order.specs.Order.{put}
use Rattle.kind_order.specs.Walk.{walk_of}
use Rattle.kind_order.proofs.Walks.{IsGoingOn, steps_left}
use Rattle.kind_order.proofs.walk.walk.Given as goal

abbrev pub invariant-loop-visit : goal.invariant-loop-visit
invariant-loop-visit l = IsGoingOn (length l.rows) (named_in l.rows) (put (length l.rows) (named_in l.rows) l.fn.order.items l.start) (walk_of l.marks.items l.stack.items l.order.items)

abbrev pub decreases-loop-visit : goal.decreases-loop-visit
decreases-loop-visit l = steps_left (walk_of l.marks.items l.stack.items l.order.items)
