use Rattle.std.proofs.Common.{◌≡◌, length}
use Rattle.script_faults.specs.Rows.{has_function}
use Rattle.script_faults.proofs.rows.has_function.Given as goal

abbrev pub invariant-loop-left : goal.invariant-loop-left
invariant-loop-left l = has_function (length l.rows) l.rows l.fn.from l.name ≡ has_function l.left l.rows l.place l.name

abbrev pub decreases-loop-left : goal.decreases-loop-left
decreases-loop-left l = l.left
