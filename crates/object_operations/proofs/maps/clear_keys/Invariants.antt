use Rattle.std.proofs.Common.{◌≡◌, take}
use Rattle.object_operations.specs.Applies.{MapBecomes}
use Rattle.object_operations.proofs.maps.clear_keys.Given as goal

abbrev pub invariant-loop-left : goal.invariant-loop-left
invariant-loop-left l = record { becomes : MapBecomes l.fn.heap l.heap l.pairs (take l.left); shares : l.heap.shares ≡ l.fn.heap.shares }

abbrev pub decreases-loop-left : goal.decreases-loop-left
decreases-loop-left l = l.left
