use Rattle.std.proofs.Common.{◌<◌, ◌≤◌, take}
use Rattle.chan_values.specs.Portable.{IsKeyList}
use Rattle.heap_meaning.specs.Heap.{content_at}
use Rattle.heap_meaning.specs.Reading.{keys_in}
use Rattle.object_makers.specs.Joins.{Lacks}
use Rattle.object_makers.proofs.append.new_key_count.Given as goal

abbrev pub invariant-loop-at : goal.invariant-loop-at
invariant-loop-at l = record { lacks : Lacks l.heap l.pairs l.from l.count (take l.at); ordered : 0 < l.at → IsKeyList (keys_in (content_at l.heap l.from)); within : l.count ≤ l.at }
