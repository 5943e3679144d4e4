use Rattle.std.proofs.Common.{rules, sym, ◌∙◌}
use Rattle.object_operations.proofs.MapLaws.{looks_up_none, looks_up, map_handed, map_unmoved}
use Rattle.object_operations.proofs.maps.lookup.Goals as goal

pub returns-in-None-clause-answer : goal.returns-in-None-clause-answer
returns-in-None-clause-answer c = map_handed c.plain.ensures (map_unmoved c.in-None.ensures.unchanged (looks_up_none c.args.heap.now c.args.pairs.now c.args.key.now c.as_bytes.result.now (search rules) (sym c.share_key.ensures.same ∙ c.in-None.is)))

pub returns-clause-answer : goal.returns-clause-answer
returns-clause-answer c = looks_up c.args.heap.now c.share_key.new.self c.args.pairs.now c.args.key.now c.in-Some-share_key.item c.as_bytes.result.now (search rules) (sym c.share_key.ensures.same ∙ c.in-Some-share_key.is) c.in-Some-share_key.ensures.moves
