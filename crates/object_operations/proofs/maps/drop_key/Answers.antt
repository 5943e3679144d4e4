use Rattle.std.proofs.Common.{rules, sym, ◌∙◌}
use Rattle.object_operations.proofs.MapLoops.{drops_no_key, drops_missing, drops_key}
use Rattle.object_operations.proofs.maps.drop_key.Goals as goal

pub returns-in-None-clause-dropped : goal.returns-in-None-clause-dropped
returns-in-None-clause-dropped c = drops_no_key c.args.heap.now c.args.pairs.now c.args.at (search rules)

pub returns-in-None-take_key-clause-dropped : goal.returns-in-None-take_key-clause-dropped
returns-in-None-take_key-clause-dropped c = drops_missing c.args.heap.now c.take_key.new.self c.args.pairs.now c.args.at c.as_bytes.result.now c.key_at.ensures.ascending (search rules) (sym c.take_key.ensures.value ∙ c.in-None-take_key.is)

pub returns-clause-dropped : goal.returns-clause-dropped
returns-clause-dropped c = drops_key c.args.heap.now c.take_key.new.self c.release.new.self c.args.pairs.now c.in-Some-take_key.item c.args.at c.as_bytes.result.now c.key_at.ensures.ascending (search rules) c.in-Some-take_key.ensures.taken c.release.ensures.moves
