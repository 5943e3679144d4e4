use Rattle.std.proofs.Common.{◌≡◌, ◌-◌, length, None}
use Rattle.node_tree.specs.Making.{kind_subtree, made_count, numbered}
use Rattle.node_tree.specs.Pending.{to_make, finished, HaveParents}
use Rattle.node_tree.proofs.make.make_nodes.Given as goal

abbrev pub invariant-loop-next : goal.invariant-loop-next
invariant-loop-next l = record {
  whole : finished l.plans l.owner l.first l.nodes.items (to_make l.plans l.pending.items) ≡ numbered l.plans l.owner None l.first (kind_subtree l.plans l.place);
  parents : HaveParents l.nodes.items (to_make l.plans l.pending.items);
}

abbrev pub decreases-loop-next : goal.decreases-loop-next
decreases-loop-next l = made_count l.plans l.place - length l.nodes.items
