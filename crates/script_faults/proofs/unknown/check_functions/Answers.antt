use Rattle.std.proofs.Common.{◌≡◌, ◌∙◌, ap}
use Rattle.std.specs.List.{flat_map}
use Rattle.folder_rules.specs.Faults.{first}
use Rattle.folder_rules.specs.ScriptFaults.{unknown_functions}
use Rattle.folder_rules.proofs.Found.{finds_weaker}
use Rattle.script_faults.specs.Rows.{row_faults}
use Rattle.script_faults.specs.Sources.{all_sources}
use Rattle.script_faults.proofs.RowFaults.{faults_same}
use Rattle.script_faults.proofs.unknown.check_functions.Goals as goal

pub returns : goal.returns
returns c =
    let all = c.args.components.now in
    let sources = all_sources c.args.table.now in
    finds_weaker (λ found. found ≡ first (flat_map (row_faults c.args.names.now c.as_slice.result.now) all)) (λ found. found ≡ first (unknown_functions sources all))
    (λ found e. e ∙ ap first (ap (λ l. flat_map (row_faults c.args.names.now l) all) c.as_slice.ensures.value ∙ faults_same sources c.args.names.now all c.requires.places c.in_ok-rows.rows.items c.in_ok-rows.ensures))
    c.check_each.result c.check_each.ensures
