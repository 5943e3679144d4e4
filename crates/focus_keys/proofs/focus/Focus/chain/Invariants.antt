use Rattle.std.proofs.Common.{◌≡◌, ◌++◌}
use Rattle.std.specs.Option.{ForSome}
use Rattle.node_tree.specs.Nodes.{IsNode}
use Rattle.node_tree.specs.Family.{upward, IsFamily}
use Rattle.focus_keys.specs.Chain.{focus_chain}
use Rattle.focus_keys.proofs.focus.Focus.chain.Given as goal

abbrev pub invariant-loop-left : goal.invariant-loop-left
invariant-loop-left l = record {
  so_far : l.chain ++ upward l.left l.nodes l.next ≡ focus_chain l.nodes l.fn.self;
  node : ForSome l.next (IsNode l.nodes);
  family : IsFamily l.nodes;
}

abbrev pub decreases-loop-left : goal.decreases-loop-left
decreases-loop-left l = l.left
