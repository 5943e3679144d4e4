use Rattle.object_makers.proofs.CreateLaws.{makes_pairs}
use Rattle.object_makers.proofs.create.make_empty_map.Goals as goal

pub returns-clause-answer : goal.returns-clause-answer
returns-clause-answer c = makes_pairs c.args.heap.now c.make_pairs.new.self c.in_ok-make_pairs.field-0 c.in_ok-make_pairs.ensures.made
