use Rattle.std.proofs.Common.{arith}
use Rattle.brs_copy.proofs.Marking.{next_done}
use Rattle.brs_copy.proofs.chain.next_marks.Goals as goal

pub returns : goal.returns
returns c = next_done c.args.heap.now c.args.marks.now c.loop-place.next.items c.loop-place.place c.loop-place.invariant (λ k l. c.places-place-end.ensures k (omega arith))
