use Rattle.call_release.proofs.Dropping.{Freed}
use Rattle.call_release.proofs.release.release_calls.Given as goal

abbrev pub invariant-loop-i : goal.invariant-loop-i
invariant-loop-i l = Freed l.initial.heap l.heap l.initial.frames l.frames l._i
