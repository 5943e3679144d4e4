use Rattle.std.proofs.Common.{take, ap, sym, ◌∙◌, [], ◌∷◌, ◌++◌}
use Rattle.std.proofs.lemmas.List.{take_more}
use Rattle.chan_values.specs.View.{tree_of}
use Rattle.field_types.specs.NamedNodes.{nodes_in}
use Rattle.node_tree.specs.Visited.{is_open}
use Rattle.node_tree.proofs.Searches.{visited_none, visited_field}
use Rattle.node_tree.proofs.reach.visit_named.Goals as goal

pub loop-field-init : goal.loop-field-init
loop-field-init c = visited_none (is_open c.args.nodes.now c.args.closed) c.args.found.now.keys

pub loop-field-preserved : goal.loop-field-preserved
loop-field-preserved c = visited_field (is_open c.args.nodes.now c.args.closed) c.args.found.now.keys c.loop-field.found.keys _ (take c.loop-field.field-index c.args.fields.now) _ c.field-item.result _
    (take_more c.args.fields.now c.loop-field.field-index c.field-item.result c.loop-field-test.true ∙ ap (λ f. take c.loop-field.field-index c.args.fields.now ++ f ∷ []) (sym c.field-item.is))
    (c.as_slice.ensures.value ∙ c.in_ok-push_named.ensures ∙ ap (λ l. l ++ nodes_in (tree_of c.get.result.now)) c.new-named.ensures.items ∙ ap nodes_in c.get.ensures)
    c.loop-field.invariant c.in_ok-visit_all.ensures
