use Rattle.std.proofs.Common.{◌+◌, ◌*◌, ◌≡◌, take}
use Rattle.chan_values.specs.Tree.{values_of, keys_of}
use Rattle.heap_meaning.specs.Heap.{content_at}
use Rattle.heap_meaning.specs.Reading.{children_in, keys_in}
use Rattle.copy_meaning.specs.Bounded.{tree_within}
use Rattle.copy_meaning.specs.Forms.{form_at}
use Rattle.brs_copy.proofs.Filling.{Filling}
use Rattle.brs_copy.proofs.fill.+fill.Given as goal

abbrev pub decreases-fill : goal.decreases-fill
decreases-fill l = 2 * l.bound

abbrev pub decreases-fill_items : goal.decreases-fill_items
decreases-fill_items l = 2 * l.bound + 1

abbrev pub decreases-fill_pairs : goal.decreases-fill_pairs
decreases-fill_pairs l = 2 * l.bound + 1

abbrev pub invariant-fill_items-loop-at : goal.invariant-fill_items-loop-at
invariant-fill_items-loop-at l = Filling (tree_within (form_at l.heap) l.bound) (children_in (content_at l.heap l.v)) l.at l.copies

abbrev pub invariant-fill_pairs-loop-at : goal.invariant-fill_pairs-loop-at
invariant-fill_pairs-loop-at l = record {
  values : Filling (tree_within (form_at l.heap) l.bound) (children_in (content_at l.heap l.v)) l.at (values_of l.copies);
  keys : keys_of l.copies ≡ take l.at (keys_in (content_at l.heap l.v));
}
