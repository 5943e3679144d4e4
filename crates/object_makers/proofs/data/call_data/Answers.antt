use Rattle.std.proofs.Common.{rules, ◌∷◌, ◌-◌, length, take, drop}
use Rattle.object_operations.proofs.Answering.{through}
use Rattle.object_operations.proofs.Listing.{first}
use Rattle.object_operations.proofs.Told.{with_arguments}
use Rattle.object_makers.specs.MessageData.{data_row}
use Rattle.object_makers.proofs.MessageLaws.{calls_message}
use Rattle.object_makers.proofs.data.call_data.Goals as goal

pub returns-in-Message-clause-answer : goal.returns-in-Message-clause-answer
returns-in-Message-clause-answer c =
    let list = first c.args.arguments.now c.message-item.result c.in-len1-up.len_at_least c.message-item.is in
    through c.message_data.result (λ r x. with_arguments (c.message-item.result ∷ take (length c.args.arguments.now - 1) (drop 1 c.args.arguments.now)) list (calls_message c.args.heap.now c.message_data.new.heap c.message-item.result (take (length c.args.arguments.now - 1) (drop 1 c.args.arguments.now)) r data_row (search rules) x)) c.message_data.ensures.answer
