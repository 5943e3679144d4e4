use Rattle.std.proofs.Common.{◌≡◌, length}
use Rattle.kind_order.specs.Graph.{named_in}
use Rattle.kind_order.specs.Order.{order_of_first}
use Rattle.kind_order.specs.Walk.{AreMarked}
use Rattle.kind_order.proofs.order.order_of.Given as goal

abbrev pub invariant-loop-place : goal.invariant-loop-place
invariant-loop-place l = record {
  order : l.order.items ≡ order_of_first (length l.rows) (named_in l.rows) l.place;
  marked : AreMarked (length l.rows) l.marks.items l.order.items;
}
