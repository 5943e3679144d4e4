use Rattle.std.proofs.Common.{◌∙◌, ◌<◌, [], ◌∷◌, ◌++◌, ap, sym, length, map, take, arith}
use Rattle.folder_rules.proofs.Lists.{map_more}
use Rattle.kind_order.specs.Named.{named_components}
use Rattle.kind_order.proofs.Rows.{places_are}
use Rattle.kind_order.proofs.named.named_rows.Goals as goal

pub loop-component-preserved : goal.loop-component-preserved
loop-component-preserved c =
    let cs = c.args.components.now in
    let named = named_components cs in
    let i = c.loop-component.component-index in
    let item = c.component-item.result in
    let here : i < length cs = omega arith in
    c.in_ok-push_row.ensures
    ∙ ap (λ l. l ++ c.in_ok-places.places.items ∷ []) c.loop-component.invariant
    ∙ ap (λ x. map named (take i cs) ++ x ∷ []) (c.in_ok-places.ensures ∙ places_are c.args.names.now cs c.requires item)
    ∙ sym (map_more named cs i item here c.component-item.is)
