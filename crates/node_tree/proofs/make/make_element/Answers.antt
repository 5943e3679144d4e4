use Rattle.std.proofs.Common.{arith}
use Rattle.node_tree.proofs.ElementSteps.{element_step_is, element_parents}
use Rattle.node_tree.proofs.make.make_element.Goals as goal

pub returns-clause-rest : goal.returns-clause-rest
returns-clause-rest c =
    element_step_is c.args.plans.now c.args.owner c.args.first c.args.nodes.now.items c.push-2.new.self.items c.args.pending.now.items c.push_elements.new.pending.items c.push_kind.new.pending.items c.args.next
    c.index_mut.result.now c.push.new.self c.in_ok-node.node c.as_slice.result.now c.as_slice-2.result.now _ _ c.len-at.result
    c.in_ok-push.ensures.ok c.in_ok-node.ensures.node c.in-Ok.ensures.items c.as_slice.ensures c.as_slice-2.ensures (c.in_ok-push_elements.ensures c.args.plans.now) c.in_ok-push_kind.ensures
    c.index_mut.ensures.value c.requires.parents.0 (omega arith) (omega arith) (omega arith)

pub returns-clause-parents : goal.returns-clause-parents
returns-clause-parents c =
    element_parents c.args.plans.now c.args.nodes.now.items c.push-2.new.self.items c.args.pending.now.items c.push_elements.new.pending.items c.push_kind.new.pending.items c.args.next
    c.index_mut.result.now c.push.new.self c.in_ok-node.node c.as_slice-2.result.now c.len-at.result
    c.in-Ok.ensures.items (c.in_ok-push_elements.ensures c.args.plans.now) c.in_ok-push_kind.ensures (omega arith) c.requires.parents.1
