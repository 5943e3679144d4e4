use Rattle.std.proofs.Common.{◌≡◌, ◌∙◌, ap}
use Rattle.std.specs.List.{flat_map}
use Rattle.folder_rules.specs.Faults.{first}
use Rattle.folder_rules.specs.KindFaults.{unknown_children, unknown_children_in}
use Rattle.folder_rules.specs.Kinds.{kind_names}
use Rattle.folder_rules.specs.Names.{is_among, is_known}
use Rattle.folder_rules.proofs.Found.{finds_weaker}
use Rattle.folder_rules.proofs.Tables.{known_is_among}
use Rattle.component_faults.proofs.Known.{children_same}
use Rattle.component_faults.proofs.children.check_children.Goals as goal

pub returns : goal.returns
returns c =
    let names = kind_names c.args.components.now in
    finds_weaker (λ found. found ≡ first (flat_map (unknown_children_in (is_known c.args.names.now)) c.args.components.now)) (λ found. found ≡ first (unknown_children c.args.components.now))
    (λ found e. e ∙ ap first (children_same (is_known c.args.names.now) (is_among names) (known_is_among c.args.names.now names c.requires) c.args.components.now))
    c.check_each.result c.check_each.ensures
