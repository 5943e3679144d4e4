use Rattle.std.proofs.Common.{sym, ◌∙◌}
use Rattle.object_operations.proofs.ArrayLaws.{takes_none, takes_item, handed, unmoved}
use Rattle.object_operations.proofs.arrays.take_at.Goals as goal

pub returns-in-None-clause-answer : goal.returns-in-None-clause-answer
returns-in-None-clause-answer c = handed c.plain.ensures (unmoved c.in-None.ensures.unchanged (takes_none c.args.heap.now c.args.array.now c.args.at (sym c.take_item.ensures.value ∙ c.in-None.is)))

pub returns-in-Some-clause-answer : goal.returns-in-Some-clause-answer
returns-in-Some-clause-answer c = takes_item c.args.heap.now c.take_item.new.self c.args.array.now c.in-Some.item c.args.at (sym c.take_item.ensures.value ∙ c.in-Some.is) c.in-Some.ensures.taken
