use Rattle.std.proofs.Common.{◌+◌, ◌*◌}
use Rattle.heap_meaning.specs.Heap.{content_at}
use Rattle.heap_meaning.specs.Reading.{children_in}
use Rattle.copy_meaning.specs.Bounded.{tree_within}
use Rattle.copy_meaning.specs.Forms.{form_at}
use Rattle.brs_copy.proofs.Counting.{Counting}
use Rattle.brs_copy.proofs.count.+count.Given as goal

abbrev pub decreases-count : goal.decreases-count
decreases-count l = 2 * l.bound

abbrev pub decreases-count_items : goal.decreases-count_items
decreases-count_items l = 2 * l.bound + 1

abbrev pub invariant-count_items-loop-at : goal.invariant-count_items-loop-at
invariant-count_items-loop-at l = Counting (tree_within (form_at l.heap) l.bound) (children_in (content_at l.heap l.v)) l.at l.fn.left l.left
