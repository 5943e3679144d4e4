use Rattle.std.proofs.Common.{rules, ap, ◌∙◌}
use Rattle.std.specs.Option.{is_some}
use Rattle.object_operations.proofs.MapLaws.{exists_no_text, exists_is, some_copied}
use Rattle.object_operations.proofs.maps.exists.Goals as goal

pub returns-in-None : goal.returns-in-None
returns-in-None c = record { answer = exists_no_text c.args.heap.now c.args.pairs.now c.args.key.now (search rules) }

pub returns-in-Some : goal.returns-in-Some
returns-in-Some c = record { answer = exists_is c.args.heap.now c.args.pairs.now c.args.key.now c.plain.result c.as_bytes.result.now c.is_some-there.result c.plain.ensures (search rules) (c.is_some-there.ensures ∙ some_copied c.get_key.result ∙ ap is_some c.get_key.ensures) }
