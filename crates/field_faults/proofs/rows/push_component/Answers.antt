use Rattle.std.proofs.Common.{◌≡◌, ◌∙◌, ap, subst, map}
use Rattle.chan_values.specs.Folded.{folded}
use Rattle.folder_rules.specs.Kinds.{base_name, declared_field}
use Rattle.folder_rules.specs.Names.{number_in}
use Rattle.field_faults.specs.Rows.{HasFieldsMore, IsOf}
use Rattle.field_faults.proofs.KindRows.{all_fields}
use Rattle.field_faults.proofs.rows.push_component.Goals as goal

pub returns-in-Ok : goal.returns-in-Ok
returns-in-Ok c =
    let component = c.args.component.now in
    let base : c.get.result ≡ number_in c.args.names.now (base_name component) = c.get.ensures ∙ ap (number_in c.args.names.now) (c.as_str-2.ensures.bytes ∙ c.in_ok-base.ensures ∙ ap folded (c.as_bytes.ensures.value ∙ c.as_str.ensures.bytes)) in
    let more = subst (λ l. HasFieldsMore c.new-row.result c.add_fields.new.row (map declared_field l)) c.as_slice.ensures c.in_ok-add_fields.ensures in
    record {
      row = c.add_fields.new.row;
      rows = c.in-Ok.ensures.items;
      is = subst (λ o. IsOf o (map declared_field component.file.fields) c.add_fields.new.row) base (all_fields c.new-row.result c.add_fields.new.row c.get.result (map declared_field component.file.fields) c.new-row.ensures more);
    }
