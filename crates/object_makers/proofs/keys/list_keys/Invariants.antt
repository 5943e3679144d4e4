use Rattle.std.proofs.Common.{◌≡◌, take}
use Rattle.heap_meaning.specs.Heap.{content_at}
use Rattle.heap_meaning.specs.Reading.{HoldsArray}
use Rattle.object_makers.specs.KeyLists.{PushesKeys}
use Rattle.object_makers.proofs.keys.list_keys.Given as goal

abbrev pub invariant-loop-at : goal.invariant-loop-at
invariant-loop-at l = record { pushes : PushesKeys l.initial.heap l.heap l.pairs l.list (take l.at); array : HoldsArray (content_at l.heap l.list); shares : l.heap.shares ≡ l.fn.heap.shares }
