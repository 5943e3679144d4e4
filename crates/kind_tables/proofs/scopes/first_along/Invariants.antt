use Rattle.std.proofs.Common.{◌≡◌, length}
use Rattle.std.specs.Option.{option_copied}
use Rattle.ordered_names.specs.Values.{behind}
use Rattle.kind_tables.specs.Ascending.{earlier, least}
use Rattle.kind_tables.specs.Rows.{names_along}
use Rattle.kind_tables.proofs.scopes.first_along.Given as goal

abbrev pub invariant-loop-kind : goal.invariant-loop-kind
invariant-loop-kind l = least (behind (option_copied l.name) (names_along l.fn.kinds)) ≡ earlier (option_copied l.first) (least (behind (option_copied l.name) (names_along l.kinds)))

abbrev pub decreases-loop-kind : goal.decreases-loop-kind
decreases-loop-kind l = length l.kinds
