use Rattle.std.proofs.Common.{◌≡◌, length}
use Rattle.std.specs.Cmp.Lexicographic.{slice_cmp}
use Rattle.std.specs.Ordering.{nat_cmp}
use Rattle.chan_values.specs.Folded.{folded}
use Rattle.ordered_names.proofs.order.compare.Given as goal

abbrev pub invariant-loop-own : goal.invariant-loop-own
invariant-loop-own l = slice_cmp nat_cmp l.fn.own (folded l.fn.name) ≡ slice_cmp nat_cmp l.own (folded l.name)

abbrev pub decreases-loop-own : goal.decreases-loop-own
decreases-loop-own l = length l.own
