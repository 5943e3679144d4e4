use Rattle.object_operations.proofs.Answering.{through}
use Rattle.object_operations.proofs.ArrayLaws.{pushes}
use Rattle.object_operations.proofs.arrays.push.Goals as goal

pub returns-clause-answer : goal.returns-clause-answer
returns-clause-answer c = through c.insert_at.result (λ r x. pushes c.args.heap.now c.insert_at.new.heap c.args.array.now c.args.item.now c.length-end.result r c.length-end.ensures x) c.insert_at.ensures.answer
