use Rattle.std.proofs.Common.{◌≡◌, true, None, sym, ap, subst, ◌∙◌, rules}
use Rattle.node_tree.specs.Nodes.{IsNode, children_in, children_of, with_node, with_children, with_parent}
use Rattle.node_tree.specs.Family.{has, without}
use Rattle.node_tree.specs.Closed.{IsKept}
use Rattle.node_tree.proofs.Places.{still_node}
use Rattle.node_tree.proofs.Kept.{removed_kept}
use Rattle.node_tree.proofs.nodes.Nodes.remove_child.Goals as goal

pub set_parent-requires : goal.set_parent-requires
set_parent-requires c =
    subst (λ l. IsNode l c.args.child) (sym c.take_out.ensures)
    (still_node (with_children (without c.args.child)) c.self.inside.nodes.items c.args.node c.args.child (subst (λ l. IsNode l c.args.child) (sym c.self.view_is) c.requires.child))

pub invariant_of-self : goal.invariant_of-self
invariant_of-self c =
    let told : c.has.result ≡ true = search rules in
    subst (λ l. IsKept l c.self.inside.closed) (sym (c.set_parent.ensures ∙ ap (λ l. with_node (with_parent None) l c.args.child) c.take_out.ensures))
    (removed_kept c.self.inside.nodes.items c.args.node c.args.child c.self.inside.closed
    (ap (λ l. has c.args.child (children_of l c.args.node)) c.self.view_is ∙ ap (λ o. has c.args.child (children_in o)) c.node.ensures.is ∙ sym c.has.ensures ∙ told) c.self.invariant)
