use Rattle.std.proofs.Common.{sym, ◌∙◌}
use Rattle.object_makers.proofs.DataLaws.{gives_data}
use Rattle.object_makers.proofs.data.lay_data.Goals as goal

pub returns-in_ok-copy_in-in-Some-clause-answer : goal.returns-in_ok-copy_in-in-Some-clause-answer
returns-in_ok-copy_in-in-Some-clause-answer c = gives_data c.args.heap.now c.copy_in.new.heap c.args.message.now c.in_ok-copy_in-in-Some.field-0 c.in-Some.payload (sym c.in-Some.is ∙ c.in_ok-payload_at.ensures) c.in_ok-copy_in-in-Some.ensures.lays
