use Rattle.std.proofs.Common.{sym, ◌∙◌}
use Rattle.object_operations.proofs.ArrayLoops.{drops_none, drops_item, becomes_unmoved}
use Rattle.object_operations.proofs.arrays.drop_item.Goals as goal

pub returns-in-None-clause-dropped : goal.returns-in-None-clause-dropped
returns-in-None-clause-dropped c = becomes_unmoved c.in-None.ensures.unchanged (drops_none c.args.heap.now c.args.array.now c.args.at (sym c.take_item.ensures.value ∙ c.in-None.is))

pub returns-in-Some-clause-dropped : goal.returns-in-Some-clause-dropped
returns-in-Some-clause-dropped c = drops_item c.args.heap.now c.take_item.new.self c.release.new.self c.args.array.now c.in-Some.item c.args.at c.in-Some.ensures.taken c.release.ensures.moves
