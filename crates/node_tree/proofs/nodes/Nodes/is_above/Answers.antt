use Rattle.std.proofs.Common.{◌-◌, sym, ap, subst, ◌∙◌}
use Rattle.node_tree.specs.Family.{has, upward, IsFamily}
use Rattle.node_tree.proofs.Kin.{other}
use Rattle.node_tree.proofs.Upward.{stays, parent_next}
use Rattle.node_tree.proofs.nodes.Nodes.is_above.Goals as goal

pub loop-preserved : goal.loop-preserved
loop-preserved c = record {
  same =
      stays c.len-end.result c.loop.counter c.args.self.now c.args.above c.in-Some.here _ c.loop-test.true (other _ _ c.if-here-above.false) c.parent-next.ensures
      ∙ ap (λ q. has c.args.above (upward (c.len-end.result - c.loop.counter) c.args.self.now q)) (sym c.in-Some.is)
      ∙ c.loop.invariant.same;
  next = parent_next c.args.self.now (subst IsFamily c.self.view_is c.self.invariant.sound.family) c.in-Some.here _ c.parent-next.ensures;
}
