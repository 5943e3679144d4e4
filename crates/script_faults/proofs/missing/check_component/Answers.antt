use Rattle.std.proofs.Common.{◌≡◌, ◌∙◌, ap}
use Rattle.std.specs.List.{flat_map}
use Rattle.folder_rules.specs.Faults.{first}
use Rattle.folder_rules.specs.ScriptFaults.{missing_script}
use Rattle.folder_rules.proofs.Found.{finds_weaker}
use Rattle.script_faults.specs.Scripts.{missing_in}
use Rattle.script_faults.specs.Sources.{all_sources}
use Rattle.script_faults.proofs.missing.check_component.Goals as goal

pub returns : goal.returns
returns c =
    let all = all_sources c.args.table.now in
    finds_weaker (λ found. found ≡ first (flat_map (missing_script all c.args.component.now.path) c.as_slice-scripts.result.now)) (λ found. found ≡ first (missing_in all c.args.component.now))
    (λ found e. e ∙ ap (λ l. first (flat_map (missing_script all c.args.component.now.path) l)) c.as_slice-scripts.ensures)
    c.check_each_script.result c.check_each_script.ensures
