use Rattle.std.proofs.Common.{◌≡◌, ◌+◌, ◌*◌, take}
use Rattle.chan_values.specs.Tree.{depth, deepest, trees, values_of}
use Rattle.chan_values.specs.View.{tree_of, tree_pair_of}
use Rattle.chan_values.proofs.equality.+same.Given as goal

abbrev pub decreases-same : goal.decreases-same
decreases-same l = 3 * depth (tree_of l.a.now)

abbrev pub decreases-same_items : goal.decreases-same_items
decreases-same_items l = 3 * deepest (trees l.xs.now) + 2

abbrev pub decreases-same_pair : goal.decreases-same_pair
decreases-same_pair l = 3 * depth (tree_pair_of l.x.now).tree + 1

abbrev pub decreases-same_pairs : goal.decreases-same_pairs
decreases-same_pairs l = 3 * deepest (trees (values_of l.xs.now)) + 2

abbrev pub invariant-same_items-loop-at : goal.invariant-same_items-loop-at
invariant-same_items-loop-at l = take l.at l.xs ≡ take l.at l.ys

abbrev pub invariant-same_pairs-loop-at : goal.invariant-same_pairs-loop-at
invariant-same_pairs-loop-at l = take l.at l.xs ≡ take l.at l.ys
