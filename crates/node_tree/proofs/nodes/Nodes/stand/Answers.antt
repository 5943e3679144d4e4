use Rattle.std.proofs.Common.{Some, sym, ap, subst, ◌∙◌}
use Rattle.node_tree.specs.Nodes.{IsNode, owner_of, with_node, with_parent}
use Rattle.node_tree.specs.Family.{has, ancestry}
use Rattle.node_tree.specs.Closed.{IsKept}
use Rattle.node_tree.proofs.Kept.{standing_kept}
use Rattle.node_tree.proofs.Moves.{put_node}
use Rattle.node_tree.proofs.nodes.Nodes.stand.Goals as goal

pub set_parent-requires : goal.set_parent-requires
set_parent-requires c = put_node c.args.place c.self.inside.nodes.items _ c.args.node c.args.child c.args.child c.in_ok-change_children.ensures.ok (subst (λ l. IsNode l c.args.child) (sym c.self.view_is) c.requires.child)

pub invariant_of-self-2 : goal.invariant_of-self-2
invariant_of-self-2 c =
    subst (λ l. IsKept l c.stays_closed-closed.result) (sym (c.set_parent.ensures ∙ ap (λ l. with_node (with_parent (Some c.args.node)) l c.args.child) c.in_ok-change_children.ensures.ok))
    (standing_kept c.args.place c.self.inside.nodes.items c.args.node c.args.child c.owner.result c.owner-2.result c.self.inside.closed c.stays_closed-closed.result
    (ap (λ l. owner_of l c.args.node) c.self.view_is ∙ c.owner.ensures) (ap (λ l. owner_of l c.args.child) c.self.view_is ∙ c.owner-2.ensures)
    (subst (λ l. IsNode l c.args.node) (sym c.self.view_is) c.requires.node) (subst (λ l. IsNode l c.args.child) (sym c.self.view_is) c.requires.child)
    (ap (λ l. has c.args.child (ancestry l c.args.node)) c.self.view_is ∙ c.requires.clear) c.stays_closed-closed.ensures c.self.invariant)
