use Rattle.std.proofs.Common.{◌≡◌}
use Rattle.std.specs.Option.{option_or}
use Rattle.field_faults.specs.Rows.{field_along, field_at}
use Rattle.field_faults.proofs.rows.field_at.Given as goal

abbrev pub invariant-loop-left : goal.invariant-loop-left
invariant-loop-left l = field_at l.rows l.fn.from l.id ≡ option_or (field_along l.left l.rows l.place l.id) l.found

abbrev pub decreases-loop-left : goal.decreases-loop-left
decreases-loop-left l = l.left
