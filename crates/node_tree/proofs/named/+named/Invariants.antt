use Rattle.std.proofs.Common.{◌≡◌, ◌+◌, ◌*◌, ◌++◌, take}
use Rattle.chan_values.specs.Tree.{depth, deepest, trees, values_of}
use Rattle.chan_values.specs.View.{tree_of}
use Rattle.field_types.specs.NamedNodes.{nodes_in_all}
use Rattle.node_tree.proofs.named.+named.Given as goal

abbrev pub decreases-push_named : goal.decreases-push_named
decreases-push_named l = 2 * depth (tree_of l.p.now)

abbrev pub decreases-push_items : goal.decreases-push_items
decreases-push_items l = 2 * deepest (trees l.items.now) + 1

abbrev pub decreases-push_pairs : goal.decreases-push_pairs
decreases-push_pairs l = 2 * deepest (trees (values_of l.pairs.now)) + 1

abbrev pub invariant-push_items-loop-item : goal.invariant-push_items-loop-item
invariant-push_items-loop-item l = l.named.items ≡ l.fn.named.items ++ nodes_in_all (trees (take l.item-index l.items))

abbrev pub invariant-push_pairs-loop-pair : goal.invariant-push_pairs-loop-pair
invariant-push_pairs-loop-pair l = l.named.items ≡ l.fn.named.items ++ nodes_in_all (trees (values_of (take l.pair-index l.pairs)))
