use Rattle.std.proofs.Common.{◌≡◌, ◌++◌, map}
use Rattle.node_tree.specs.Pending.{pending_at}
use Rattle.node_tree.proofs.nodes.Nodes.push_children.Given as goal

abbrev pub invariant-loop-child : goal.invariant-loop-child
invariant-loop-child l = l.pending.items ≡ l.initial.pending.items ++ map (pending_at l.levels) (map (λ k. k.now) l.yielded)
