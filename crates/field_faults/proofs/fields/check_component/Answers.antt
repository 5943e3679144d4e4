use Rattle.std.proofs.Common.{◌≡◌, ◌∙◌, [], ap}
use Rattle.chan_values.specs.Folded.{folded}
use Rattle.folder_rules.specs.Faults.{first}
use Rattle.folder_rules.specs.FieldFaults.{repeated_ids}
use Rattle.folder_rules.specs.Names.{number_in}
use Rattle.folder_rules.proofs.Found.{finds_weaker}
use Rattle.field_faults.specs.Rows.{has_field, row_faults}
use Rattle.field_faults.proofs.fields.check_component.Goals as goal

pub returns : goal.returns
returns c =
    let rows = c.args.rows.now in
    let component = c.args.component.now in
    let base = c.get.ensures ∙ ap (number_in c.args.names.now) (c.as_str-2.ensures.bytes ∙ c.in_ok-base.ensures ∙ ap folded (c.as_bytes.ensures.value ∙ c.as_str.ensures.bytes)) in
    finds_weaker (λ found. found ≡ first (repeated_ids (has_field rows c.get.result) component.path [] c.as_slice.result.now)) (λ found. found ≡ first (row_faults c.args.names.now rows component))
    (λ found e.
    e ∙ ap (λ place. first (repeated_ids (has_field rows place) component.path [] c.as_slice.result.now)) base
    ∙ ap (λ fields. first (repeated_ids (has_field rows (number_in c.args.names.now (folded component.file.extends))) component.path [] fields)) c.as_slice.ensures)
    c.check_fields.result c.check_fields.ensures
