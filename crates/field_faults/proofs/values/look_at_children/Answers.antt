use Rattle.std.proofs.Common.{◌<◌, ◌≤◌, Bor, length, take, arith, sym, subst}
use Rattle.std.specs.List.{flat_map}
use Rattle.std.proofs.lemmas.List.{take_all}
use Rattle.component_files.specs.declared.element.ChildElement.{ChildElement}
use Rattle.folder_rules.specs.Children.{own_tag}
use Rattle.folder_rules.proofs.Lists.{flat_map_more}
use Rattle.field_faults.specs.Values.{tag_texts, LooksAt}
use Rattle.field_faults.proofs.Looks.{looks_more}
use Rattle.field_faults.proofs.values.look_at_children.Goals as goal

pub loop-child-preserved : goal.loop-child-preserved
loop-child-preserved c =
    let all = c.args.elements.now in
    let i = c.loop-child.child-index in
    let here : i < length all = omega arith in
    λ path.
    subst (λ l. LooksAt path l c.args.first c.in_ok-first.first) (sym (flat_map_more (λ (child : Bor ChildElement). tag_texts c.args.names.now c.args.rows.now path (own_tag child.now)) all i c.child-item.result here c.child-item.is))
    (looks_more path (flat_map (λ (child : Bor ChildElement). tag_texts c.args.names.now c.args.rows.now path (own_tag child.now)) (take i all)) (tag_texts c.args.names.now c.args.rows.now path (own_tag c.child-item.result.now)) c.args.first c.loop-child.first c.in_ok-first.first (c.loop-child.invariant path) (c.in_ok-first.ensures path))

pub returns : goal.returns
returns c =
    let all = c.args.elements.now in
    let done : length all ≤ c.loop-child.child-index = omega arith in
    λ path. subst (λ l. LooksAt path (flat_map (λ (child : Bor ChildElement). tag_texts c.args.names.now c.args.rows.now path (own_tag child.now)) l) c.args.first c.loop-child.first) (take_all c.loop-child.child-index all done) (c.loop-child.invariant path)
