use Rattle.std.proofs.Common.{rules, arith, sym, ◌∙◌}
use Rattle.object_operations.proofs.ArrayLaws.{handed}
use Rattle.object_operations.proofs.ArrayLoops.{none_of}
use Rattle.object_operations.proofs.ItemLaws.{writes_no_number, writes_below, writes_far, writes_at}
use Rattle.object_operations.proofs.members.put_item.Goals as goal

pub returns-in_default-clause-answer : goal.returns-in_default-clause-answer
returns-in_default-clause-answer c = writes_no_number c.args.heap.now c.args.array.now c.args.i.now c.args.v.now (none_of _ c.number.ensures c.in_default.not-Some)

pub returns-in_default-place-clause-answer : goal.returns-in_default-place-clause-answer
returns-in_default-place-clause-answer c = writes_below c.args.heap.now c.args.array.now c.args.i.now c.args.v.now c.in-Some.n (sym c.number.ensures ∙ c.in-Some.is) (none_of _ (search rules) c.in_default-place.not-Some)

pub returns-then-at-ge-MAX_LENGTH-clause-answer : goal.returns-then-at-ge-MAX_LENGTH-clause-answer
returns-then-at-ge-MAX_LENGTH-clause-answer c = writes_far c.args.heap.now c.args.array.now c.args.i.now c.args.v.now c.in-Some.n c.in-Some-place.at (sym c.number.ensures ∙ c.in-Some.is) (search rules) (omega arith)

pub returns-in-Ok-clause-answer : goal.returns-in-Ok-clause-answer
returns-in-Ok-clause-answer c = handed c.plain.ensures (writes_at c.args.heap.now c.share-shared.new.self c.set.new.self c.args.array.now c.args.i.now c.args.v.now c.share-shared.result c.in-Some.n c.in-Some-place.at (sym c.number.ensures ∙ c.in-Some.is) (search rules) (omega arith) c.share-shared.ensures.same c.share-shared.ensures.moves c.in-Ok.ensures.set)
