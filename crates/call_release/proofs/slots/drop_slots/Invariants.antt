use Rattle.call_release.proofs.Dropping.{Cleared}
use Rattle.call_release.proofs.slots.drop_slots.Given as goal

abbrev pub invariant-loop-i : goal.invariant-loop-i
invariant-loop-i l = Cleared l.initial.heap l.heap l.initial.frames l.frames l._i
