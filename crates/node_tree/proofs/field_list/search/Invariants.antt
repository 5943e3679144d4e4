use Rattle.std.proofs.Common.{◌-◌}
use Rattle.chan_values.specs.Folded.{folded}
use Rattle.node_tree.specs.NameOrder.{names_of}
use Rattle.node_tree.proofs.NameSearches.{Between}
use Rattle.node_tree.proofs.field_list.search.Given as goal

abbrev pub invariant-loop-low : goal.invariant-loop-low
invariant-loop-low l = Between (names_of l.items) l.order (folded l.name) l.low l.high

abbrev pub decreases-loop-low : goal.decreases-loop-low
decreases-loop-low l = l.high - l.low
