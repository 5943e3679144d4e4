use Rattle.std.proofs.Common.{◌≡◌, ◌∙◌, ap}
use Rattle.std.specs.List.{flat_map}
use Rattle.folder_rules.specs.Faults.{first}
use Rattle.folder_rules.specs.FieldFaults.{duplicate_fields}
use Rattle.folder_rules.proofs.Found.{finds_weaker}
use Rattle.field_faults.specs.Rows.{row_faults}
use Rattle.field_faults.proofs.RowFaults.{faults_same}
use Rattle.field_faults.proofs.fields.check_duplicate_fields.Goals as goal

pub returns : goal.returns
returns c =
    let all = c.args.components.now in
    finds_weaker (λ found. found ≡ first (flat_map (row_faults c.args.names.now c.as_slice.result.now) all)) (λ found. found ≡ first (duplicate_fields all))
    (λ found e. e ∙ ap first (ap (λ l. flat_map (row_faults c.args.names.now l) all) c.as_slice.ensures.value ∙ faults_same c.args.names.now all c.requires c.in_ok-rows.rows.items c.in_ok-rows.ensures))
    c.check_each.result c.check_each.ensures
