use Rattle.literal_instructions.proofs.Building.{extends_one}
use Rattle.literal_instructions.proofs.arrays.push_item.Goals as goal

pub returns-in-Ok-clause-pushed : goal.returns-in-Ok-clause-pushed
returns-in-Ok-clause-pushed c =
    extends_one c.args.heap.now c.share-shared.new.self c.insert.new.self c.args.array.now c.args.item.now c.share-shared.result c.length-end.result c.length-end.ensures c.share-shared.ensures.same c.share-shared.ensures.moves c.in-Ok.ensures.inserted
