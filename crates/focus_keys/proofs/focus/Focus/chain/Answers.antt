use Rattle.std.proofs.Common.{ap, ◌∙◌, ◌++◌, sym, subst}
use Rattle.std.specs.Option.{ForSome}
use Rattle.node_tree.specs.Nodes.{IsNode}
use Rattle.node_tree.specs.Family.{upward}
use Rattle.focus_keys.proofs.Upward.{whole_upward, parents_are_nodes, one_up}
use Rattle.focus_keys.proofs.focus.Focus.chain.Goals as goal

pub loop-left-init : goal.loop-left-init
loop-left-init c = record {
  so_far = ap (λ xs. xs ++ upward c.count-left.result c.args.nodes.now c.self.inside.node) c.new-chain.ensures
      ∙ ap (λ n. upward n c.args.nodes.now c.self.inside.node) c.count-left.ensures.is
      ∙ ap (upward _ c.args.nodes.now) c.self.view_is
      ∙ whole_upward c.args.nodes.now c.args.self.now;
  node = subst (λ o. ForSome o (IsNode c.args.nodes.now)) (sym c.self.view_is) c.requires;
  family = c.count-left.ensures.sound.family;
}

pub loop-left-preserved : goal.loop-left-preserved
loop-left-preserved c = record {
  so_far = one_up c.args.nodes.now c.loop-left.left c.in-Some.node c.loop-left.chain c.push.new.self _ c.loop-left.next c.parent-next.result
      c.loop-left-test.true c.in-Some.is c.loop-left.invariant.so_far c.in_ok-push.ensures.ok c.parent-next.ensures;
  node = parents_are_nodes c.args.nodes.now c.loop-left.invariant.family c.in-Some.node c.parent-next.result (sym c.parent-next.ensures);
  family = c.loop-left.invariant.family;
}
