use Rattle.call_release.proofs.Dropping.{Dropped}
use Rattle.call_release.proofs.operands.drop_operands.Given as goal

abbrev pub invariant-loop-i : goal.invariant-loop-i
invariant-loop-i l = Dropped l.initial.heap l.heap l.initial.frames l.frames l._i
