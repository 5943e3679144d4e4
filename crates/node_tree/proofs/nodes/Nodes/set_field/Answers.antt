use Rattle.std.proofs.Common.{sym, ap, subst, ◌∙◌}
use Rattle.std.specs.Option.{option_map}
use Rattle.chan_values.specs.View.{tree_of}
use Rattle.node_tree.specs.Closed.{IsKept, stays_closed}
use Rattle.node_tree.specs.Fields.{with_value}
use Rattle.node_tree.proofs.FieldWrites.{no_field, no_fit, same_value, set_value}
use Rattle.node_tree.proofs.Kept.{set_kept}
use Rattle.node_tree.proofs.nodes.Nodes.set_field.Goals as goal

pub returns-in_default-clause-after : goal.returns-in_default-clause-after
returns-in_default-clause-after c = sym (no_field c.args.self.now c.args.node c.node.result.now c.args.field.now (tree_of c.args.p.now) c.node.ensures.is (sym c.in_default.ensures))

pub returns-in_default-2-clause-after : goal.returns-in_default-2-clause-after
returns-in_default-2-clause-after c =
    sym (no_fit c.args.self.now c.args.node c.node.result.now c.args.field.now (tree_of c.args.p.now) c.in-Some.old.now c.node.ensures.is (sym c.in-Some.ensures)
    (sym c.in_ok-value.ensures ∙ ap (λ o. option_map tree_of o) c.in_default-2.is))

pub returns-then-is-clause-after : goal.returns-then-is-clause-after
returns-then-is-clause-after c =
    sym (same_value c.args.self.now c.args.node c.node.result.now c.args.field.now (tree_of c.args.p.now) (tree_of c.in-Some-2.value) c.in-Some.old.now c.node.ensures.is (sym c.in-Some.ensures)
    (sym c.in_ok-value.ensures ∙ ap (λ o. option_map tree_of o) c.in-Some-2.is) (sym c.is.ensures ∙ c.if-is.true))

pub invariant_of-self : goal.invariant_of-self
invariant_of-self c =
    subst (λ l. IsKept l c.in_ok-closed.closed)
    (sym (set_value c.args.self.now c.self.inside.nodes.items c.args.node c.index_mut.result.now c.node.result.now c.args.field.now (tree_of c.args.p.now) (tree_of c.in-Some-2.value) c.in-Some.old.now _ c.self.view_is c.requires c.node.ensures.is c.index_mut.ensures.value (sym c.in-Some.ensures)
    (sym c.in_ok-value.ensures ∙ ap (λ o. option_map tree_of o) c.in-Some-2.is) (c.set.ensures ∙ ap (λ t. with_value c.args.field.now t c.index_mut.result.now.fields) c.new.ensures)))
    (set_kept c.args.self.now c.args.node c.args.field.now (tree_of c.args.p.now) (tree_of c.in-Some-2.value) c.node.result.now c.in-Some.old.now c.owner.result c.self.inside.closed c.in_ok-closed.closed c.node.ensures.is c.owner.ensures (sym c.in-Some.ensures)
    (sym c.in_ok-value.ensures ∙ ap (λ o. option_map tree_of o) c.in-Some-2.is)
    (c.in_ok-closed.ensures ∙ ap (λ l. stays_closed l c.self.inside.closed c.owner.result (tree_of c.in-Some-2.value)) (c.as_slice.ensures.value ∙ c.self.view_is))
    (subst (λ l. IsKept l c.self.inside.closed) c.self.view_is c.self.invariant))

pub returns-clause-after : goal.returns-clause-after
returns-clause-after c =
    set_value c.args.self.now c.self.inside.nodes.items c.args.node c.index_mut.result.now c.node.result.now c.args.field.now (tree_of c.args.p.now) (tree_of c.in-Some-2.value) c.in-Some.old.now _ c.self.view_is c.requires c.node.ensures.is c.index_mut.ensures.value (sym c.in-Some.ensures)
    (sym c.in_ok-value.ensures ∙ ap (λ o. option_map tree_of o) c.in-Some-2.is) (c.set.ensures ∙ ap (λ t. with_value c.args.field.now t c.index_mut.result.now.fields) c.new.ensures)
