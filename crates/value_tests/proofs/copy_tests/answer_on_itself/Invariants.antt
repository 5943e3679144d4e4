use Rattle.std.proofs.Common.{◌+◌, ◌^◌, ◌≤◌}
use Rattle.value_tests.proofs.copy_tests.answer_on_itself.Given as goal

abbrev pub invariant-loop-at : goal.invariant-loop-at
invariant-loop-at l = 2 ^ 63 ≤ l.heap.shares + l.at
