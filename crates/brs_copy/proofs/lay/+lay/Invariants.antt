use Rattle.std.proofs.Common.{◌+◌, ◌*◌, ◌≡◌, take}
use Rattle.chan_values.specs.Tree.{Array, Keyed, depth, deepest, trees, values_of, keys_of}
use Rattle.chan_values.specs.View.{tree_of}
use Rattle.brs_copy.proofs.Laying.{Laying}
use Rattle.brs_copy.proofs.lay.+lay.Given as goal

abbrev pub decreases-copy_in : goal.decreases-copy_in
decreases-copy_in l = 2 * depth (tree_of l.p.now)

abbrev pub decreases-lay_items : goal.decreases-lay_items
decreases-lay_items l = 2 * deepest (trees l.items.now) + 1

abbrev pub decreases-lay_pairs : goal.decreases-lay_pairs
decreases-lay_pairs l = 2 * deepest (trees (values_of l.pairs.now)) + 1

abbrev pub invariant-lay_items-loop-at : goal.invariant-lay_items-loop-at
invariant-lay_items-loop-at l = record {
  laying : Laying l.fn.heap l.heap l.array Array (take l.at l.items);
  shares : l.heap.shares ≡ l.fn.heap.shares;
}

abbrev pub invariant-lay_pairs-loop-pair : goal.invariant-lay_pairs-loop-pair
invariant-lay_pairs-loop-pair l = record {
  laying : Laying l.fn.heap l.heap l.map (Keyed (keys_of (take l.pair-index l.pairs))) (values_of (take l.pair-index l.pairs));
  shares : l.heap.shares ≡ l.fn.heap.shares;
}
