use Rattle.std.specs.Prelude.{reverse}
use Rattle.node_tree.proofs.Lineages.{over, further}
use Rattle.node_tree.proofs.making.lineage.Goals as goal

pub returns-in_default : goal.returns-in_default
returns-in_default c = over _ c.args.plans.now c.loop.next (reverse c.loop.places.items) _ c.in_default.is c.loop.invariant

pub loop-preserved : goal.loop-preserved
loop-preserved c = further c.len-end.result c.loop.counter c.args.plans.now c.loop.next c.base_of-next.result c.in-Some.here c.loop.places.items c.push.new.self.items _ c.loop-test.true c.in-Some.is c.base_of-next.ensures c.in-Ok.ensures.items c.loop.invariant
