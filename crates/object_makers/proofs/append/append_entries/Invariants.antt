use Rattle.std.proofs.Common.{◌+◌, ◌≤◌, take}
use Rattle.object_makers.specs.Joins.{Joins}
use Rattle.object_makers.proofs.append.append_entries.Given as goal

abbrev pub invariant-loop-at : goal.invariant-loop-at
invariant-loop-at l = record { joins : Joins l.fn.heap l.heap l.pairs l.from (take l.at); shares : l.fn.heap.shares ≤ l.heap.shares + l.at }
