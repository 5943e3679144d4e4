use Rattle.std.proofs.Common.{◌≡◌, length}
use Rattle.kind_order.specs.Walk.{next_unmarked}
use Rattle.kind_order.proofs.walk.next_unmarked.Given as goal

abbrev pub invariant-loop-left : goal.invariant-loop-left
invariant-loop-left l = next_unmarked l.marks l.places ≡ next_unmarked l.marks l.left

abbrev pub decreases-loop-left : goal.decreases-loop-left
decreases-loop-left l = length l.left
