use Rattle.std.proofs.Common.{[], ◌∷◌, ◌++◌, sym, ap, subst, ◌∙◌}
use Rattle.node_tree.specs.Closed.{IsKept}
use Rattle.node_tree.proofs.FieldWrites.{add_new, one_field, has_none}
use Rattle.node_tree.proofs.Kept.{add_kept}
use Rattle.node_tree.proofs.nodes.Nodes.add_field.Goals as goal

pub invariant_of-self-2 : goal.invariant_of-self-2
invariant_of-self-2 c =
    subst (λ l. IsKept l c.self.inside.closed)
    (sym (add_new c.args.self.now c.self.inside.nodes.items c.args.node c.index_mut.result.now c.args.field.now c.args.t c.args.always _ c.self.view_is c.requires.node c.index_mut.ensures.value
    (has_none c.args.self.now c.args.node c.node.result.now c.args.field.now c.named.result c.is_some.result c.node.ensures.is c.named.ensures c.is_some.ensures c.if-is_some.false)
    (c.in_ok-push.ensures.ok ∙ ap (λ f. c.index_mut.result.now.fields ++ f ∷ []) (one_field c.args.field.now c.in_ok-fold_name.field-0 c.args.t c.args.always c.new.result c.new-2.result c.in_ok-fold_name.ensures (c.new.ensures ∙ c.opening.ensures) (c.new-2.ensures ∙ c.opening-2.ensures)))))
    (add_kept c.args.self.now c.args.node c.args.field.now c.args.t c.args.always c.self.inside.closed (subst (λ l. IsKept l c.self.inside.closed) c.self.view_is c.self.invariant))

pub returns-clause-after : goal.returns-clause-after
returns-clause-after c =
    add_new c.args.self.now c.self.inside.nodes.items c.args.node c.index_mut.result.now c.args.field.now c.args.t c.args.always _ c.self.view_is c.requires.node c.index_mut.ensures.value
    (has_none c.args.self.now c.args.node c.node.result.now c.args.field.now c.named.result c.is_some.result c.node.ensures.is c.named.ensures c.is_some.ensures c.if-is_some.false)
    (c.in_ok-push.ensures.ok ∙ ap (λ f. c.index_mut.result.now.fields ++ f ∷ []) (one_field c.args.field.now c.in_ok-fold_name.field-0 c.args.t c.args.always c.new.result c.new-2.result c.in_ok-fold_name.ensures (c.new.ensures ∙ c.opening.ensures) (c.new-2.ensures ∙ c.opening-2.ensures)))
