use Rattle.std.proofs.Common.{◌∙◌}
use Rattle.literal_instructions.proofs.Building.{enters_one}
use Rattle.literal_instructions.proofs.pairs.put_pair.Goals as goal

pub returns-in-Ok-clause-put : goal.returns-in-Ok-clause-put
returns-in-Ok-clause-put c =
    enters_one c.args.heap.now c.share-shared.new.self c.set_key.new.self c.args.pairs.now c.args.item.now c.share-shared.result c.args.key.now c.as_bytes.result.now (c.as_bytes.ensures.value ∙ c.as_str.ensures.bytes) c.share-shared.ensures.same c.share-shared.ensures.moves
    c.in-Ok.ensures.set
