use Rattle.std.proofs.Common.{take}
use Rattle.std.proofs.lemmas.List.{take_more}
use Rattle.node_tree.specs.Visited.{is_open}
use Rattle.node_tree.proofs.Searches.{visited_none, visited_next}
use Rattle.node_tree.proofs.reach.visit_all.Goals as goal

pub loop-node-init : goal.loop-node-init
loop-node-init c = visited_none (is_open c.args.nodes.now c.args.closed) c.args.found.now.keys

pub loop-node-preserved : goal.loop-node-preserved
loop-node-preserved c = visited_next (is_open c.args.nodes.now c.args.closed) c.args.found.now.keys c.loop-node.found.keys _ (take c.loop-node.node-index c.args.more.now) _ _ (take_more c.args.more.now c.loop-node.node-index 0 c.loop-node-test.true) c.loop-node.invariant c.in_ok-visit.ensures
