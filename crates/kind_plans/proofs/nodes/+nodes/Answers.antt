use Rattle.std.proofs.Common.{◌≡◌, ◌∙◌, ◌+◌, ◌++◌, ◌∷◌, [], min, ap, take, sym, subst}
use Rattle.std.proofs.lemmas.List.{take_more}
use Rattle.field_types.specs.Plans.{elements_nodes, elements_of, too_many}
use Rattle.kind_plans.proofs.Elements.{nodes_of, nodes_turn}
use Rattle.kind_plans.proofs.nodes.+nodes.Goals as goal

pub with_child-returns : goal.with_child-returns
with_child-returns t c =
    nodes_of c.args.table.now c.args.child.now c.args.so_far c.capped-with_own.result c.made_by.result c.with_children.result c.made_by.ensures c.capped-with_own.ensures
    (subst (λ l. c.with_children.result ≡ min too_many (c.capped-with_own.result + elements_nodes c.args.table.now (elements_of l))) c.as_slice.ensures c.with_children.ensures)

pub with_children-loop-child-preserved : goal.with_children-loop-child-preserved
with_children-loop-child-preserved t c =
    let i = c.loop-child.child-index in let all = c.args.children.now in
    nodes_turn c.args.table.now (take i all) (take (i + 1) all) c.child-item.result c.args.so_far c.loop-child.nodes c.with_child-nodes.result
    (take_more all i c.child-item.result c.loop-child-test.true ∙ ap (λ x. take i all ++ x ∷ []) (sym c.child-item.is)) c.loop-child.invariant c.with_child-nodes.ensures
