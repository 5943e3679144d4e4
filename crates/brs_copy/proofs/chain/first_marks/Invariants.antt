use Rattle.heap_meaning.specs.Values.{Cell}
use Rattle.heap_meaning.specs.Heap.{content_at}
use Rattle.heap_meaning.specs.Reading.{HoldsItems}
use Rattle.brs_copy.proofs.Marking.{Marked}
use Rattle.brs_copy.proofs.chain.first_marks.Given as goal

abbrev pub invariant-loop-place : goal.invariant-loop-place
invariant-loop-place l = Marked (λ k. HoldsItems (content_at l.heap (Cell k))) l.marks.items l.place
