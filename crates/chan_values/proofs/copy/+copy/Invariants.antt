use Rattle.std.proofs.Common.{◌≡◌, ◌+◌, ◌*◌, take}
use Rattle.chan_values.specs.Tree.{depth, deepest, trees, values_of}
use Rattle.chan_values.specs.View.{tree_of, tree_pair_of}
use Rattle.chan_values.proofs.copy.+copy.Given as goal

abbrev pub decreases-copy_portable : goal.decreases-copy_portable
decreases-copy_portable l = 3 * depth (tree_of l.p.now)

abbrev pub decreases-copy_items : goal.decreases-copy_items
decreases-copy_items l = 3 * deepest (trees l.items.now) + 2

abbrev pub decreases-copy_pair : goal.decreases-copy_pair
decreases-copy_pair l = 3 * depth (tree_pair_of l.pair.now).tree + 1

abbrev pub decreases-copy_pairs : goal.decreases-copy_pairs
decreases-copy_pairs l = 3 * deepest (trees (values_of l.pairs.now)) + 2

abbrev pub invariant-copy_items-loop-item : goal.invariant-copy_items-loop-item
invariant-copy_items-loop-item l = l.copy ≡ take l.item-index l.items

abbrev pub invariant-copy_pairs-loop-pair : goal.invariant-copy_pairs-loop-pair
invariant-copy_pairs-loop-pair l = l.copy ≡ take l.pair-index l.pairs
