use Rattle.std.proofs.Common.{◌-◌, suc, length}
use Rattle.node_tree.proofs.Searches.{IsReaching}
use Rattle.node_tree.proofs.reach.reach.Given as goal

abbrev pub invariant-loop-next : goal.invariant-loop-next
invariant-loop-next l = IsReaching l.nodes l.closed l.node l.found.keys l.at

abbrev pub decreases-loop-next : goal.decreases-loop-next
decreases-loop-next l = suc (length l.nodes) - l.at
