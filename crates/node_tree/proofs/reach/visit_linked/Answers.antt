use Rattle.std.proofs.Common.{subst}
use Rattle.node_tree.specs.Reach.{kin, named_by}
use Rattle.node_tree.specs.Visited.{is_open, linked_in, IsVisited}
use Rattle.node_tree.proofs.Searches.{visited_none, visited_more}
use Rattle.node_tree.proofs.reach.visit_linked.Goals as goal

pub returns-in_default : goal.returns-in_default
returns-in_default c = subst (λ o. IsVisited (is_open c.args.nodes.now c.args.closed) c.args.found.now.keys c.args.found.now.keys (linked_in o)) c.in_default.ensures (visited_none (is_open c.args.nodes.now c.args.closed) c.args.found.now.keys)

pub returns : goal.returns
returns c = subst (λ o. IsVisited (is_open c.args.nodes.now c.args.closed) c.args.found.now.keys c.visit_named.new.found.keys (linked_in o)) c.in-Some.ensures
    (visited_more (is_open c.args.nodes.now c.args.closed) c.args.found.now.keys c.visit_kin.new.found.keys c.visit_named.new.found.keys (kin c.in-Some.node.now) (named_by c.in-Some.node.now.fields) c.in_ok-visit_kin.ensures
    (subst (λ l. IsVisited (is_open c.args.nodes.now c.args.closed) c.visit_kin.new.found.keys c.visit_named.new.found.keys (named_by l)) c.as_slice.ensures c.in_ok-visit_named.ensures))
