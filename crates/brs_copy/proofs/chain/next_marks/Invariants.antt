use Rattle.brs_copy.specs.Marks.{HoldsMarked}
use Rattle.brs_copy.proofs.Marking.{Marked}
use Rattle.brs_copy.proofs.chain.next_marks.Given as goal

abbrev pub invariant-loop-place : goal.invariant-loop-place
invariant-loop-place l = Marked (HoldsMarked l.heap l.marks) l.next.items l.place
