use Rattle.std.proofs.Common.{◌≡◌, ◌∙◌, ap, length}
use Rattle.std.specs.List.{flat_map}
use Rattle.folder_rules.specs.Faults.{first}
use Rattle.folder_rules.specs.ScriptFaults.{named_functions}
use Rattle.folder_rules.proofs.Found.{finds_weaker}
use Rattle.script_faults.specs.Rows.{has_function, row_faults, unknown_by}
use Rattle.script_faults.proofs.unknown.check_component.Goals as goal

pub returns : goal.returns
returns c =
    let rows = c.args.rows.now in
    let component = c.args.component.now in
    finds_weaker (λ found. found ≡ first (flat_map (unknown_by (has_function (length rows) rows c.in_ok-kind.kind) component.path) (named_functions component))) (λ found. found ≡ first (row_faults c.args.names.now rows component))
    (λ found e. e ∙ ap (λ k. first (flat_map (unknown_by (has_function (length rows) rows k) component.path) (named_functions component))) c.in_ok-kind.ensures)
    c.check_names.result c.check_names.ensures
