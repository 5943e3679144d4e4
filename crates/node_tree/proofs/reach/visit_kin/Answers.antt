use Rattle.std.proofs.Common.{subst}
use Rattle.node_tree.specs.Visited.{is_open, IsVisited}
use Rattle.node_tree.proofs.Searches.{visited_parent}
use Rattle.node_tree.proofs.reach.visit_kin.Goals as goal

pub returns : goal.returns
returns c = visited_parent (is_open c.args.nodes.now c.args.closed) c.args.found.now.keys c.visit_parent.new.found.keys c.visit_all.new.found.keys c.args.node.now.parent c.args.node.now.children c.in_ok-visit_parent.ensures
    (subst (IsVisited (is_open c.args.nodes.now c.args.closed) c.visit_parent.new.found.keys c.visit_all.new.found.keys) c.as_slice.ensures c.in_ok-visit_all.ensures)
