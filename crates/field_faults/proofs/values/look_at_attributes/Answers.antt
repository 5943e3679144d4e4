use Rattle.std.proofs.Common.{◌<◌, ◌≤◌, length, take, arith, sym, subst}
use Rattle.std.specs.List.{flat_map}
use Rattle.std.proofs.lemmas.List.{take_all}
use Rattle.folder_rules.specs.Children.{own_tag}
use Rattle.folder_rules.proofs.Lists.{flat_map_more}
use Rattle.field_faults.specs.Values.{attribute_text, LooksAt}
use Rattle.field_faults.proofs.Looks.{looks_more}
use Rattle.field_faults.proofs.values.look_at_attributes.Goals as goal

pub loop-attribute-preserved : goal.loop-attribute-preserved
loop-attribute-preserved c =
    let all = c.args.attributes.now in
    let i = c.loop-attribute.attribute-index in
    let here : i < length all = omega arith in
    λ path.
    subst (λ l. LooksAt path l c.args.first c.in_ok-first.first) (sym (flat_map_more (attribute_text c.args.rows.now c.args.kind path (own_tag c.args.child.now)) all i c.attribute-item.result here c.attribute-item.is))
    (looks_more path (flat_map (attribute_text c.args.rows.now c.args.kind path (own_tag c.args.child.now)) (take i all)) (attribute_text c.args.rows.now c.args.kind path (own_tag c.args.child.now) c.attribute-item.result) c.args.first c.loop-attribute.first c.in_ok-first.first (c.loop-attribute.invariant path) (c.in_ok-first.ensures path))

pub returns : goal.returns
returns c =
    let all = c.args.attributes.now in
    let done : length all ≤ c.loop-attribute.attribute-index = omega arith in
    λ path. subst (λ l. LooksAt path (flat_map (attribute_text c.args.rows.now c.args.kind path (own_tag c.args.child.now)) l) c.args.first c.loop-attribute.first) (take_all c.loop-attribute.attribute-index all done) (c.loop-attribute.invariant path)
