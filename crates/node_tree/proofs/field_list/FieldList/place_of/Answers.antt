use Rattle.std.proofs.Common.{position, Some, sym, ap, ◌∙◌, subst₂}
use Rattle.std.proofs.lemmas.Grind.{get_or_default_zero}
use Rattle.chan_values.specs.Folded.{folded}
use Rattle.field_types.specs.Words.{is_alike}
use Rattle.node_tree.specs.NameOrder.{names_of, IsNamedAt, IsNameGap}
use Rattle.node_tree.proofs.NamePlaces.{place_named, gap_named}
use Rattle.node_tree.proofs.field_list.FieldList.place_of.Goals as goal

pub returns-in-Ok : goal.returns-in-Ok
returns-in-Ok c =
    let here : IsNamedAt (names_of c.self.inside.items.items) c.self.inside.order.items (folded c.args.name.now) c.in-Ok.at = subst₂ (λ fs os. IsNamedAt (names_of fs) os (folded c.args.name.now) c.in-Ok.at) c.as_slice.ensures.value c.as_slice-2.ensures.value c.in-Ok.ensures.found in
    ap (λ n. Some n) (c.index.ensures ∙ get_or_default_zero c.self.inside.order.items c.in-Ok.at c.index.result.now here.within)
    ∙ sym (place_named c.self.inside.items.items c.self.inside.order.items c.args.name.now c.in-Ok.at c.self.invariant here)
    ∙ ap (λ fs. position (λ f. is_alike f.id c.args.name.now) fs) c.self.view_is

pub returns-in-Err : goal.returns-in-Err
returns-in-Err c =
    let gap : IsNameGap (names_of c.self.inside.items.items) c.self.inside.order.items (folded c.args.name.now) c.in-Err.field-0 = subst₂ (λ fs os. IsNameGap (names_of fs) os (folded c.args.name.now) c.in-Err.field-0) c.as_slice.ensures.value c.as_slice-2.ensures.value c.in-Err.ensures.gap in
    sym (gap_named c.self.inside.items.items c.self.inside.order.items c.args.name.now c.in-Err.field-0 c.self.invariant gap)
    ∙ ap (λ fs. position (λ f. is_alike f.id c.args.name.now) fs) c.self.view_is
