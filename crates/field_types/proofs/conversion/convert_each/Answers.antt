use Rattle.std.proofs.Common.{◌∙◌, ◌+◌, [], ◌∷◌, take, Some, ap, sym}
use Rattle.std.specs.Prelude.{slice_get}
use Rattle.std.specs.Option.{option_map}
use Rattle.chan_values.specs.Tree.{trees}
use Rattle.chan_values.specs.View.{tree_of}
use Rattle.chan_values.proofs.Walk.{walked, item_at}
use Rattle.field_types.specs.Conversion.{all_converted}
use Rattle.field_types.proofs.Items.{converted_more, converted_stops, converted_bounded}
use Rattle.field_types.proofs.conversion.convert_each.Goals as goal

pub push-requires : goal.push-requires
push-requires c =
    let i = c.loop-item.item-index in
    let w = walked tree_of _ _ i _ c.as_slice-item-items.ensures.items c.loop-item-test.true c.item-item.is in
    let one = sym c.in_ok-one.ensures ∙ ap (option_map tree_of) c.in-Some.is in
    let next = ap (λ us. all_converted c.args.t (trees us)) w ∙ converted_more c.args.t (take i c.args.items.now) c.loop-item.fitted _ _ c.loop-item.invariant one in
    converted_bounded c.args.t c.args.items.now _ (i + 1) next c.as_slice-item-items.ensures.portable.bounds

pub loop-item-preserved : goal.loop-item-preserved
loop-item-preserved c =
    let i = c.loop-item.item-index in
    let w = walked tree_of _ _ i _ c.as_slice-item-items.ensures.items c.loop-item-test.true c.item-item.is in
    let one = sym c.in_ok-one.ensures ∙ ap (option_map tree_of) c.in-Some.is in
    ap (λ us. all_converted c.args.t (trees us)) w ∙ converted_more c.args.t (take i c.args.items.now) c.loop-item.fitted _ _ c.loop-item.invariant one ∙ ap (λ us. Some (trees us)) (sym c.in_ok-push-in-Some.ensures.ok)

pub returns-in-None : goal.returns-in-None
returns-in-None c =
    let found = ap (λ us. slice_get us c.loop-item.item-index) (sym c.as_slice-item-items.ensures.items) ∙ item_at tree_of _ c.loop-item.item-index _ c.loop-item-test.true c.item-item.is in
    let none = sym c.in_ok-one.ensures ∙ ap (option_map tree_of) c.in-None.is in
    sym (converted_stops c.args.t c.args.items.now c.loop-item.item-index _ found none)
