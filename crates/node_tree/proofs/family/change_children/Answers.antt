use Rattle.std.proofs.Common.{◌≡◌, true, sym, subst, ◌∙◌}
use Rattle.node_tree.specs.Nodes.{IsNode, children_of, with_children}
use Rattle.node_tree.specs.Family.{has, with_child}
use Rattle.node_tree.proofs.Places.{still_node}
use Rattle.node_tree.proofs.Kin.{parent_is_node, parent_has_child}
use Rattle.node_tree.proofs.Moves.{put_same, put_apart}
use Rattle.node_tree.proofs.family.change_children.Goals as goal

pub put_again-requires-clause-child : goal.put_again-requires-clause-child
put_again-requires-clause-child c =
    subst (λ p. has c.args.child (children_of c.args.nodes.now.items p) ≡ true) c.if-parent-node.true
    (parent_has_child c.args.nodes.now.items c.requires.sound.family c.args.child c.in-Some.parent (sym c.requires.parent ∙ c.in-Some.is))

pub returns-then-parent-node-clause-ok : goal.returns-then-parent-node-clause-ok
returns-then-parent-node-clause-ok c = put_same c.args.place c.args.nodes.now.items _ c.args.node c.in-Some.parent c.args.child (sym c.requires.parent ∙ c.in-Some.is) c.if-parent-node.true c.put_again.ensures

pub take_out-requires : goal.take_out-requires
take_out-requires c =
    subst (λ l. IsNode l c.in-Some.parent) (sym c.in_ok-put_in.ensures.ok)
    (still_node (with_children (with_child c.args.place c.args.child)) c.args.nodes.now.items c.args.node c.in-Some.parent
    (parent_is_node c.args.nodes.now.items c.requires.sound.family c.args.child c.in-Some.parent (sym c.requires.parent ∙ c.in-Some.is)))

pub returns-clause-ok : goal.returns-clause-ok
returns-clause-ok c = put_apart c.args.place c.args.nodes.now.items _ _ c.args.node c.in-Some.parent c.args.child (sym c.requires.parent ∙ c.in-Some.is) c.if-parent-node.false c.in_ok-put_in.ensures.ok c.take_out.ensures
