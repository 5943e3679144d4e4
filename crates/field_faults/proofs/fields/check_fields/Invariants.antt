use Rattle.std.proofs.Common.{◌≡◌, [], List, ℕ, map, take, drop}
use Rattle.chan_values.specs.Folded.{folded}
use Rattle.folder_rules.specs.Faults.{first}
use Rattle.folder_rules.specs.FieldFaults.{repeated_ids}
use Rattle.folder_rules.specs.Names.{is_among, is_known}
use Rattle.field_faults.specs.Rows.{has_field}
use Rattle.field_faults.proofs.fields.check_fields.Given as goal

abbrev pub invariant-loop-field : goal.invariant-loop-field
invariant-loop-field l = record {
  table : (id : List ℕ) → is_known l.ids id ≡ is_among (map (λ e. folded e.id) (take l.field-index l.fields)) id;
  left : first (repeated_ids (has_field l.rows l.base) l.path (map (λ e. folded e.id) (take l.field-index l.fields)) (drop l.field-index l.fields)) ≡ first (repeated_ids (has_field l.rows l.base) l.path [] l.fields);
}
