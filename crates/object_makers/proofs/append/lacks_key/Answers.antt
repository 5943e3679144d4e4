use Rattle.std.proofs.Common.{rules, ap, ◌∙◌}
use Rattle.std.specs.Option.{is_none}
use Rattle.object_makers.proofs.JoinLaws.{lacks_some, lacking}
use Rattle.object_makers.proofs.append.lacks_key.Goals as goal

pub returns-in-Some-clause-lacks : goal.returns-in-Some-clause-lacks
returns-in-Some-clause-lacks c = lacks_some c.args.heap.now c.args.pairs.now c.args.from.now c.args.at c.as_bytes.result.now c.is_none.result c.key_at.ensures.ascending (search rules) (lacking c.get_key.result c.is_none.result c.is_none.ensures ∙ ap is_none c.get_key.ensures)
