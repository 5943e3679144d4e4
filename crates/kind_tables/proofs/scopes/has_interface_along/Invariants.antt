use Rattle.std.proofs.Common.{◌≡◌, length}
use Rattle.chan_values.specs.Folded.{folded}
use Rattle.kind_tables.specs.Rows.{interface_along}
use Rattle.kind_tables.proofs.scopes.has_interface_along.Given as goal

abbrev pub invariant-loop-kind : goal.invariant-loop-kind
invariant-loop-kind l = interface_along l.fn.kinds (folded l.name) ≡ interface_along l.kinds (folded l.name)

abbrev pub decreases-loop-kind : goal.decreases-loop-kind
decreases-loop-kind l = length l.kinds
