use Rattle.std.proofs.Common.{◌≡◌, drop}
use Rattle.std.specs.Cmp.Lexicographic.{slice_cmp}
use Rattle.std.specs.Ordering.{nat_cmp}
use Rattle.chan_values.specs.Folded.{folded}
use Rattle.brs_heap.proofs.keys.compare_folded.Given as goal

abbrev pub invariant-loop-at : goal.invariant-loop-at
invariant-loop-at l = slice_cmp nat_cmp (folded l.name) l.key ≡ slice_cmp nat_cmp (drop l.at (folded l.name)) (drop l.at l.key)
