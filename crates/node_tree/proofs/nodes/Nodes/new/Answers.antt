use Rattle.node_tree.proofs.MakeSteps.{first_kept}
use Rattle.node_tree.proofs.nodes.Nodes.new.Goals as goal

pub invariant_of-result : goal.invariant_of-result
invariant_of-result c = first_kept c.args.plans.now c.in_ok-new_node.ensures.table c.new-nodes.result.items c.push.new.self.items _ c.new-nodes.ensures.items c.in-Ok.ensures.items c.in_ok-new_node.ensures.node
