use Rattle.folder_rules.specs.FieldFaults.{unread_fault, IsUnread}
use Rattle.field_faults.specs.Values.{row_texts}
use Rattle.field_faults.proofs.Wrongs.{LeftOf}
use Rattle.field_faults.proofs.values.check_each.Given as goal

abbrev pub invariant-loop-component : goal.invariant-loop-component
invariant-loop-component l = LeftOf IsUnread unread_fault (row_texts l.names l.rows) l.components l.component-index
