use Rattle.std.proofs.Common.{sym, rules, ◌∙◌}
use Rattle.object_operations.proofs.ArrayLaws.{handed}
use Rattle.object_operations.proofs.ArrayLoops.{deletes_no_number, deletes_below, deletes_at, none_of}
use Rattle.object_operations.proofs.arrays.delete.Goals as goal

pub returns-in_default-clause-answer : goal.returns-in_default-clause-answer
returns-in_default-clause-answer c = deletes_no_number c.args.heap.now c.args.array.now c.args.i.now (none_of _ c.number.ensures c.in_default.not-Some)

pub returns-in-None-clause-answer : goal.returns-in-None-clause-answer
returns-in-None-clause-answer c = handed c.plain.ensures (deletes_below c.args.heap.now c.args.array.now c.args.i.now c.in-Some.n (sym c.number.ensures ∙ c.in-Some.is) (search rules))

pub returns-in-Some-place-clause-answer : goal.returns-in-Some-place-clause-answer
returns-in-Some-place-clause-answer c = handed c.plain-in-Some-place.ensures (deletes_at c.args.heap.now c.drop_item-there.new.heap c.args.array.now c.args.i.now c.in-Some.n c.in-Some-place.at c.drop_item-there.result (sym c.number.ensures ∙ c.in-Some.is) (search rules) c.drop_item-there.ensures.there c.drop_item-there.ensures.dropped)
