use Rattle.std.proofs.Common.{◌∙◌, ◌<◌, ◌++◌, Bor, ap, sym, length, map, take, arith, append_assoc}
use Rattle.std.specs.List.{filter_map}
use Rattle.std.specs.Option.{option_to_list}
use Rattle.chan_values.specs.Folded.{folded}
use Rattle.component_files.specs.declared.element.ChildElement.{ChildElement}
use Rattle.folder_rules.specs.Children.{own_tag}
use Rattle.kind_order.specs.Graph.{place_in}
use Rattle.component_cycles.proofs.Given.{given_more}
use Rattle.kind_order.proofs.named.push_elements.Goals as goal

pub loop-child-preserved : goal.loop-child-preserved
loop-child-preserved c =
    let all = c.args.elements.now in
    let i = c.loop-child.child-index in
    let item = c.child-item.result in
    let here : i < length all = omega arith in
    let f = place_in c.args.names.now in
    let before = c.args.places.now.items in
    let so_far = filter_map f (map (λ (child : Bor ChildElement). folded (own_tag child.now).kind) (take i all)) in
    let more = option_to_list (f (folded (own_tag item.now).kind)) in
    c.in_ok-push_kind.ensures ∙ ap (λ l. l ++ more) c.loop-child.invariant ∙ append_assoc before so_far more
    ∙ ap (λ l. before ++ l) (sym (given_more f (λ (child : Bor ChildElement). folded (own_tag child.now).kind) all i item here c.child-item.is))
