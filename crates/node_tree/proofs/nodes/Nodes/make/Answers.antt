use Rattle.std.proofs.Common.{◌≡◌, length, ap, refl, arith}
use Rattle.node_tree.proofs.MakeSteps.{too_many_is, room_is, grown_kept}
use Rattle.node_tree.proofs.nodes.Nodes.make.Goals as goal

pub returns-then-plan-count-clause-full : goal.returns-then-plan-count-clause-full
returns-then-plan-count-clause-full c =
    let more = too_many_is c.args.plans.now c.in-Some.ensures.table c.args.place c.count-count.result c.in-Some.plan.now c.in-Some.ensures.value c.count-count.ensures.most (omega arith) in
    (λ e. omega (arith, more, c.count-count.ensures.is), λ h. refl)

pub make_nodes-requires : goal.make_nodes-requires
make_nodes-requires c =
    let room = room_is c.args.plans.now c.in-Some.ensures.table c.args.place c.count-count.result c.in-Some.plan.now c.in-Some.ensures.value c.count-count.ensures.most (omega arith) in
    omega (arith, room)

pub returns-in_default-make_nodes-clause-full : goal.returns-in_default-make_nodes-clause-full
returns-in_default-make_nodes-clause-full c =
    let room = room_is c.args.plans.now c.in-Some.ensures.table c.args.place c.count-count.result c.in-Some.plan.now c.in-Some.ensures.value c.count-count.ensures.most (omega arith) in
    (λ e. absurd cc, λ h. absurd (omega (arith, room, c.count-count.ensures.is)))

pub invariant_of-self : goal.invariant_of-self
invariant_of-self c =
    let room = room_is c.args.plans.now c.in-Some.ensures.table c.args.place c.count-count.result c.in-Some.plan.now c.in-Some.ensures.value c.count-count.ensures.most (omega arith) in
    let size : length c.self.inside.nodes.items ≡ length c.args.self.now = ap length c.self.view_is in
    grown_kept _ c.self.inside.nodes.items c.append.new.self.items c.in-Ok.nodes.items c.args.plans.now c.args.place c.args.owner _ c.self.inside.closed c.in-Some.ensures.table (omega (arith, c.count-count.ensures.is)) c.in-Ok.ensures c.append.ensures.items (omega (arith, room, c.count-count.ensures.is)) c.self.invariant

pub returns-in-Ok-append-clause-full : goal.returns-in-Ok-append-clause-full
returns-in-Ok-append-clause-full c =
    let room = room_is c.args.plans.now c.in-Some.ensures.table c.args.place c.count-count.result c.in-Some.plan.now c.in-Some.ensures.value c.count-count.ensures.most (omega arith) in
    (λ e. absurd cc, λ h. absurd (omega (arith, room, c.count-count.ensures.is)))

pub returns-clause-full : goal.returns-clause-full
returns-clause-full c =
    let room = room_is c.args.plans.now c.in-Some.ensures.table c.args.place c.count-count.result c.in-Some.plan.now c.in-Some.ensures.value c.count-count.ensures.most (omega arith) in
    (λ e. absurd cc, λ h. absurd (omega (arith, room, c.count-count.ensures.is)))
