use Rattle.std.proofs.Common.{◌≡◌, drop}
use Rattle.chan_values.specs.Folded.{folded}
use Rattle.node_tree.specs.NameOrder.{name_cmp}
use Rattle.node_tree.proofs.names.compare_folded.Given as goal

abbrev pub invariant-loop-at : goal.invariant-loop-at
invariant-loop-at l = name_cmp (folded l.name) (folded l.other) ≡ name_cmp (drop l.at (folded l.name)) (drop l.at (folded l.other))
