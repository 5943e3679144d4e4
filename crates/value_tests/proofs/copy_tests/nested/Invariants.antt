use Rattle.std.proofs.Common.{◌+◌, ◌≤◌}
use Rattle.value_tests.proofs.copy_tests.nested.Given as goal

abbrev pub invariant-loop-round : goal.invariant-loop-round
invariant-loop-round l = l.fn.heap.shares ≤ l.heap.shares + l.round
