use Rattle.std.proofs.Common.{take}
use Rattle.node_tree.specs.Visited.{is_open, IsVisited}
use Rattle.node_tree.proofs.reach.visit_all.Given as goal

abbrev pub invariant-loop-node : goal.invariant-loop-node
invariant-loop-node l = IsVisited (is_open l.nodes l.closed) l.initial.found.keys l.found.keys (take l.node-index l.more)
