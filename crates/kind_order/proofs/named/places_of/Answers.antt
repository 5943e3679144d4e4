use Rattle.std.proofs.Common.{◌∙◌, ◌++◌, Bor, ap, map}
use Rattle.std.specs.List.{filter_map}
use Rattle.std.specs.Option.{option_to_list}
use Rattle.chan_values.specs.Folded.{folded}
use Rattle.component_files.specs.declared.element.ChildElement.{ChildElement}
use Rattle.folder_rules.specs.Children.{own_tag, own_tags, child_tags}
use Rattle.folder_rules.specs.Kinds.{base_name}
use Rattle.kind_order.specs.Graph.{place_in}
use Rattle.component_cycles.proofs.Given.{given_kinds}
use Rattle.kind_order.proofs.named.places_of.Goals as goal

pub returns : goal.returns
returns c =
    let component = c.args.component.now in
    let f = place_in c.args.names.now in
    let tags = ap own_tags c.as_slice-2.ensures.value ∙ c.in_ok-push_children.ensures ∙ ap (λ l. own_tags l ++ child_tags c.as_slice.result.now) c.new-elements.ensures.items ∙ ap child_tags c.as_slice.ensures in
    c.in_ok-push_elements.ensures
    ∙ ap (λ l. l ++ filter_map f (map (λ (child : Bor ChildElement). folded (own_tag child.now).kind) c.as_slice-2.result.now)) (c.in_ok-push_kind.ensures ∙ ap (λ l. l ++ option_to_list (f (base_name component))) c.new-places.ensures.items)
    ∙ given_kinds f component c.as_slice-2.result.now tags
