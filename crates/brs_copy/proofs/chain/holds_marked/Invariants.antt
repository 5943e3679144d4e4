use Rattle.brs_copy.proofs.Marking.{NoneYet}
use Rattle.brs_copy.proofs.chain.holds_marked.Given as goal

abbrev pub invariant-loop-at : goal.invariant-loop-at
invariant-loop-at l = NoneYet l.heap l.marks l.place l.at
