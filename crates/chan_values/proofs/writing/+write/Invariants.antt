use Rattle.std.proofs.Common.{◌≡◌, ◌+◌, ◌*◌, ◌++◌, take, map}
use Rattle.chan_values.specs.Tree.{depth, deepest, trees, values_of}
use Rattle.chan_values.specs.View.{tree_of, tree_pair_of}
use Rattle.chan_values.specs.ValueText.{listed, value_text, pair_text}
use Rattle.chan_values.proofs.writing.+write.Given as goal

abbrev pub decreases-write_one : goal.decreases-write_one
decreases-write_one l = 3 * depth (tree_of l.p.now)

abbrev pub decreases-write_items : goal.decreases-write_items
decreases-write_items l = 3 * deepest (trees l.items.now) + 2

abbrev pub decreases-write_pair : goal.decreases-write_pair
decreases-write_pair l = 3 * depth (tree_pair_of l.pair.now).tree + 1

abbrev pub decreases-write_pairs : goal.decreases-write_pairs
decreases-write_pairs l = 3 * deepest (trees (values_of l.pairs.now)) + 2

abbrev pub invariant-write_items-loop-at : goal.invariant-write_items-loop-at
invariant-write_items-loop-at l = l.out ≡ l.fn.out ++ listed (map value_text (take l.at l.items))

abbrev pub invariant-write_pairs-loop-at : goal.invariant-write_pairs-loop-at
invariant-write_pairs-loop-at l = l.out ≡ l.fn.out ++ listed (map pair_text (take l.at l.pairs))
