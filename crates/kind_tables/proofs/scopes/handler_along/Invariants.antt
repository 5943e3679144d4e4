use Rattle.std.proofs.Common.{◌≡◌, length}
use Rattle.std.specs.Option.{option_copied, option_or}
use Rattle.chan_values.specs.Folded.{folded}
use Rattle.kind_tables.specs.Rows.{handler_along}
use Rattle.kind_tables.proofs.scopes.handler_along.Given as goal

abbrev pub invariant-loop-kind : goal.invariant-loop-kind
invariant-loop-kind l = handler_along l.fn.kinds (folded l.id) ≡ option_or (handler_along l.kinds (folded l.id)) (option_copied l.found)

abbrev pub decreases-loop-kind : goal.decreases-loop-kind
decreases-loop-kind l = length l.kinds
