use Rattle.std.proofs.Common.{◌≡◌, ◌==◌, drop, length}
use Rattle.std.specs.List.{prefix_len}
use Rattle.plain_operations.proofs.numerals.without_spaces.Given as goal

abbrev pub invariant-loop-s : goal.invariant-loop-s
invariant-loop-s l = drop (prefix_len (λ b. b == 32) l.s) l.s ≡ drop (prefix_len (λ b. b == 32) l.initial.s) l.initial.s

abbrev pub decreases-loop-s : goal.decreases-loop-s
decreases-loop-s l = length l.s
