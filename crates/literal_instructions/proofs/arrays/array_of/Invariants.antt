use Rattle.std.proofs.Common.{◌+◌, ◌≤◌, take}
use Rattle.heap_meaning.specs.Heap.{content_at}
use Rattle.heap_meaning.specs.Reading.{HoldsArray}
use Rattle.literal_instructions.specs.Literals.{Extends}
use Rattle.literal_instructions.proofs.arrays.array_of.Given as goal

abbrev pub invariant-loop-item : goal.invariant-loop-item
invariant-loop-item l = record { extends : Extends l.initial.heap l.heap l.array (take l.item-index l.items); array : HoldsArray (content_at l.heap l.array); shares : l.fn.heap.shares ≤ l.heap.shares + l.item-index }
