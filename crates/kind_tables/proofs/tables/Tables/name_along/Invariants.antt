use Rattle.std.proofs.Common.{◌≡◌}
use Rattle.std.specs.Option.{option_copied}
use Rattle.chan_values.specs.Folded.{folded}
use Rattle.kind_tables.specs.Ascending.{least}
use Rattle.kind_tables.specs.Rows.{names_along}
use Rattle.kind_tables.specs.Tables.{rows_of}
use Rattle.kind_tables.proofs.Ascending.{later}
use Rattle.kind_tables.proofs.tables.Tables.name_along.Given as goal

abbrev pub invariant-loop-left : goal.invariant-loop-left
invariant-loop-left l =
    let names = names_along (rows_of l.self (folded l.kind)) in
    later l.at (least names) names ≡ later l.left (option_copied l.name) names

abbrev pub decreases-loop-left : goal.decreases-loop-left
decreases-loop-left l = l.left
