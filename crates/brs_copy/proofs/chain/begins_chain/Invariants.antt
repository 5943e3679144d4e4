use Rattle.brs_copy.specs.Marks.{Marks}
use Rattle.brs_copy.proofs.chain.begins_chain.Given as goal

abbrev pub invariant-loop-round : goal.invariant-loop-round
invariant-loop-round l = Marks l.heap l.round l.marks.items
