use Rattle.std.proofs.Common.{◌≡◌, take}
use Rattle.object_operations.specs.Applies.{ArrayBecomes}
use Rattle.object_operations.proofs.arrays.clear.Given as goal

abbrev pub invariant-loop-left : goal.invariant-loop-left
invariant-loop-left l = record { becomes : ArrayBecomes l.fn.heap l.heap l.array (take l.left); shares : l.heap.shares ≡ l.fn.heap.shares }

abbrev pub decreases-loop-left : goal.decreases-loop-left
decreases-loop-left l = l.left
