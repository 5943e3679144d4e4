use Rattle.std.proofs.Common.{◌≤◌}
use Rattle.channel_tests.proofs.outside_tests.append_each.Given as goal

abbrev pub invariant-loop-path : goal.invariant-loop-path
invariant-loop-path g l = l.failed ≤ l.path-index
