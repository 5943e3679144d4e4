use Rattle.std.proofs.Common.{take}
use Rattle.std.proofs.lemmas.List.{take_more}
use Rattle.node_tree.proofs.Searches.{none_given, given_next}
use Rattle.node_tree.proofs.reach.give_each.Goals as goal

pub loop-node-init : goal.loop-node-init
loop-node-init c = none_given c.args.nodes.now.items

pub loop-node-preserved : goal.loop-node-preserved
loop-node-preserved c = given_next c.args.nodes.now.items c.loop-node.nodes.items _ (take c.loop-node.node-index c.args.found.now) _ _ (take_more c.args.found.now c.loop-node.node-index 0 c.loop-node-test.true) c.loop-node.invariant c.give_one.ensures
