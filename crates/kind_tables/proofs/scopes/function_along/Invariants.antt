use Rattle.std.proofs.Common.{◌≡◌, length}
use Rattle.chan_values.specs.Folded.{folded}
use Rattle.kind_tables.specs.Rows.{number_along}
use Rattle.kind_tables.proofs.scopes.function_along.Given as goal

abbrev pub invariant-loop-kind : goal.invariant-loop-kind
invariant-loop-kind l = number_along l.fn.kinds (folded l.name) ≡ number_along l.kinds (folded l.name)

abbrev pub decreases-loop-kind : goal.decreases-loop-kind
decreases-loop-kind l = length l.kinds
