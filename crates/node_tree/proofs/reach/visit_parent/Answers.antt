use Rattle.std.proofs.Common.{[], sym, subst}
use Rattle.node_tree.specs.Reach.{parent_and}
use Rattle.node_tree.specs.Visited.{is_open, IsVisited}
use Rattle.node_tree.proofs.Searches.{visited_none}
use Rattle.node_tree.proofs.reach.visit_parent.Goals as goal

pub returns-in-None : goal.returns-in-None
returns-in-None c = subst (λ o. IsVisited (is_open c.args.nodes.now c.args.closed) c.args.found.now.keys c.args.found.now.keys (parent_and o [])) (sym c.in-None.is) (visited_none (is_open c.args.nodes.now c.args.closed) c.args.found.now.keys)
