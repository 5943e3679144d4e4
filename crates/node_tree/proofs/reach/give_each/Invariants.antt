use Rattle.std.proofs.Common.{◌≡◌, take}
use Rattle.node_tree.specs.Family.{has}
use Rattle.node_tree.specs.Reach.{changed_where, render_owned}
use Rattle.node_tree.proofs.reach.give_each.Given as goal

abbrev pub invariant-loop-node : goal.invariant-loop-node
invariant-loop-node l = l.nodes.items ≡ changed_where (λ n. has n (take l.node-index l.found)) render_owned 1 l.initial.nodes.items
