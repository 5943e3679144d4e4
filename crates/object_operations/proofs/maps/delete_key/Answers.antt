use Rattle.std.proofs.Common.{rules, sym, ◌∙◌}
use Rattle.object_operations.proofs.MapLaws.{deletes_none, deletes_key, map_handed, map_unmoved}
use Rattle.object_operations.proofs.maps.delete_key.Goals as goal

pub returns-in-None-clause-answer : goal.returns-in-None-clause-answer
returns-in-None-clause-answer c = map_handed c.plain.ensures (map_unmoved c.in-None.ensures.unchanged (deletes_none c.args.heap.now c.args.pairs.now c.args.key.now c.as_bytes.result.now (search rules) (sym c.take_key.ensures.value ∙ c.in-None.is)))

pub returns-clause-answer : goal.returns-clause-answer
returns-clause-answer c = map_handed c.plain-in-Some-take_key.ensures (deletes_key c.args.heap.now c.take_key.new.self c.release.new.self c.args.pairs.now c.args.key.now c.in-Some-take_key.item c.as_bytes.result.now (search rules) (sym c.take_key.ensures.value ∙ c.in-Some-take_key.is) c.in-Some-take_key.ensures.taken c.release.ensures.moves)
