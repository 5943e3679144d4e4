use Rattle.std.proofs.Common.{rules, sym, ◌∙◌}
use Rattle.object_makers.proofs.JoinLaws.{joins_none, joins_missing, joins_entry, at_key}
use Rattle.object_makers.proofs.append.put_entry.Goals as goal

pub returns-in-None-clause-joins : goal.returns-in-None-clause-joins
returns-in-None-clause-joins c = joins_none c.args.heap.now c.args.pairs.now c.args.from.now c.args.at (search rules)

pub returns-in_default-clause-joins : goal.returns-in_default-clause-joins
returns-in_default-clause-joins c = joins_missing c.args.heap.now c.share_key.new.self c.args.pairs.now c.args.from.now c.args.at c.as_bytes.result.now c.key_at.ensures.ascending (search rules) (sym c.share_key.ensures.same ∙ c.in_default.is)

pub returns-in-Ok-clause-joins : goal.returns-in-Ok-clause-joins
returns-in-Ok-clause-joins c =
    joins_entry c.args.heap.now c.share_key.new.self c.set_key.new.self c.args.pairs.now c.args.from.now c.in-Some-share_key.item c.args.at c.as_bytes.result.now c.key_at.ensures.ascending (search rules)
    (sym c.share_key.ensures.same ∙ c.in-Some-share_key.is) c.in-Some-share_key.ensures.moves (at_key c.share_key.new.self c.set_key.new.self c.args.pairs.now c.in-Some-share_key.item c.as_bytes.result.now c.as_bytes-2.result.now (search rules) c.in-Ok.ensures.set)
