use Rattle.std.proofs.Common.{map, take}
use Rattle.folder_rules.specs.Kinds.{declared_field}
use Rattle.field_faults.specs.Rows.{HasFieldsMore}
use Rattle.field_faults.proofs.rows.add_fields.Given as goal

abbrev pub invariant-loop-field : goal.invariant-loop-field
invariant-loop-field l = HasFieldsMore l.initial.row l.row (map declared_field (take l.field-index l.fields))
