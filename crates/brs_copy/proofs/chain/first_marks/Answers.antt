use Rattle.std.proofs.Common.{arith}
use Rattle.brs_copy.proofs.Marking.{first_done}
use Rattle.brs_copy.proofs.chain.first_marks.Goals as goal

pub returns : goal.returns
returns c = first_done c.args.heap.now c.loop-place.marks.items c.loop-place.place c.loop-place.invariant (λ k l. c.places-place-end.ensures k (omega arith))
