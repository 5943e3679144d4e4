use Rattle.std.proofs.Common.{arith}
use Rattle.node_tree.proofs.MakeSteps.{making_begins, making_room}
use Rattle.node_tree.proofs.make.make_nodes.Goals as goal

pub loop-next-init : goal.loop-next-init
loop-next-init c =
    let h = making_begins c.args.plans.now c.args.owner c.args.first c.args.place c.new-nodes.result.items c.push.new.self.items _ c.new-pending.result.items c.push_kind.new.pending.items c.new-nodes.ensures.items c.in-Ok.ensures.items c.in_ok-root.ensures.node c.new-pending.ensures.items c.in_ok-push_kind.ensures in
    record { whole = h.0; parents = h.1 }

pub make_element-requires-clause-room : goal.make_element-requires-clause-room
make_element-requires-clause-room c =
    let room = making_room c.args.plans.now c.args.owner c.args.first c.args.place c.loop-next.nodes.items c.loop-next.pending.items c.pop.new.self.items c.in-Some.next c.in-Some.ensures.items c.loop-next.invariant.whole in
    omega (arith, room, c.requires)

pub loop-next-smaller : goal.loop-next-smaller
loop-next-smaller c =
    let room = making_room c.args.plans.now c.args.owner c.args.first c.args.place c.loop-next.nodes.items c.loop-next.pending.items c.pop.new.self.items c.in-Some.next c.in-Some.ensures.items c.loop-next.invariant.whole in
    omega (arith, room, c.in_ok-make_element.ensures.one)
