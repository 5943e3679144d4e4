use Rattle.component_faults.proofs.Turns.{Left}
use Rattle.folder_rules.specs.FieldFaults.{bad_type}
use Rattle.component_faults.proofs.types.check_fields.Given as goal

abbrev pub invariant-loop-field : goal.invariant-loop-field
invariant-loop-field l = Left (bad_type l.path) l.fields l.field-index
