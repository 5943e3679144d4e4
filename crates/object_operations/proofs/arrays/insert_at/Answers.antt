use Rattle.std.proofs.Common.{arith}
use Rattle.object_operations.proofs.ArrayLaws.{refused_full, inserts, handed}
use Rattle.object_operations.proofs.arrays.insert_at.Goals as goal

pub returns-then-length-ge-MAX_LENGTH-clause-answer : goal.returns-then-length-ge-MAX_LENGTH-clause-answer
returns-then-length-ge-MAX_LENGTH-clause-answer c = refused_full c.args.heap.now c.args.array.now c.args.item.now c.args.at (omega arith)

pub returns-in-Ok-clause-answer : goal.returns-in-Ok-clause-answer
returns-in-Ok-clause-answer c = handed c.plain.ensures (inserts c.args.heap.now c.share-item.new.self c.insert.new.self c.args.array.now c.args.item.now c.share-item.result c.args.at (omega arith) c.share-item.ensures.same c.share-item.ensures.moves c.in-Ok.ensures.inserted)
