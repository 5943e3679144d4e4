use Rattle.std.proofs.Common.{rules}
use Rattle.object_makers.proofs.KeyListLaws.{pushes_no_key, pushes_key}
use Rattle.object_makers.proofs.keys.push_key.Goals as goal

pub returns-in-None-clause-pushed : goal.returns-in-None-clause-pushed
returns-in-None-clause-pushed c = pushes_no_key c.args.heap.now c.args.pairs.now c.args.list.now c.args.at (search rules)

pub returns-in-Ok-clause-pushed : goal.returns-in-Ok-clause-pushed
returns-in-Ok-clause-pushed c = pushes_key c.args.heap.now c.make_text.new.self c.insert.new.self c.args.pairs.now c.args.list.now c.in_ok-key.key c.args.at c.length-end.result c.in_ok-text-in-Some.text (search rules) c.in_ok-key.ensures.made c.length-end.ensures c.in-Ok.ensures.inserted
