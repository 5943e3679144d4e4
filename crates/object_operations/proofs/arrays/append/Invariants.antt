use Rattle.std.proofs.Common.{◌+◌, ◌≤◌, take}
use Rattle.heap_meaning.specs.Heap.{content_at}
use Rattle.heap_meaning.specs.Reading.{HoldsArray}
use Rattle.object_operations.specs.Applies.{Appends}
use Rattle.object_operations.proofs.arrays.append.Given as goal

abbrev pub invariant-loop-at : goal.invariant-loop-at
invariant-loop-at l = record { appended : Appends l.fn.heap l.heap l.array l.from (take l.at); array : HoldsArray (content_at l.heap l.array); shares : l.fn.heap.shares ≤ l.heap.shares + l.at }
