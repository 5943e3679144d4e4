use Rattle.std.proofs.Common.{◌≡◌, ◌∙◌, ◌++◌, ap, sym}
use Rattle.std.specs.List.{flat_map}
use Rattle.folder_rules.specs.Children.{own_tag, own_tags, child_tags}
use Rattle.folder_rules.specs.Faults.{first}
use Rattle.folder_rules.specs.KindFaults.{unknown_child, unknown_children_in}
use Rattle.folder_rules.specs.Names.{is_known}
use Rattle.folder_rules.proofs.Found.{finds_weaker}
use Rattle.folder_rules.proofs.Lists.{flat_map_map}
use Rattle.component_faults.proofs.children.check_component.Goals as goal

pub returns : goal.returns
returns c =
    let tags = ap own_tags c.as_slice-2.ensures.value ∙ c.in_ok-push_children.ensures ∙ ap (λ l. own_tags l ++ child_tags c.as_slice.result.now) c.new-elements.ensures.items ∙ ap child_tags c.as_slice.ensures in
    finds_weaker (λ found. found ≡ first (flat_map (λ child. unknown_child (is_known c.args.names.now) c.args.component.now.path (own_tag child.now)) c.as_slice-2.result.now))
    (λ found. found ≡ first (unknown_children_in (is_known c.args.names.now) c.args.component.now))
    (λ found e. e ∙ ap first (sym (flat_map_map (unknown_child (is_known c.args.names.now) c.args.component.now.path) (λ child. own_tag child.now) c.as_slice-2.result.now) ∙ ap (flat_map (unknown_child (is_known c.args.names.now) c.args.component.now.path)) tags))
    c.check_elements.result c.check_elements.ensures
