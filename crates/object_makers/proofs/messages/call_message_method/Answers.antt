use Rattle.std.proofs.Common.{rules, arith, ◌∷◌, ◌-◌, length, take, drop}
use Rattle.object_operations.specs.Messages.{method_of_message}
use Rattle.object_operations.proofs.Answering.{through}
use Rattle.object_operations.proofs.Listing.{first}
use Rattle.object_operations.proofs.Told.{refuses_message, with_arguments}
use Rattle.object_makers.proofs.MessageLaws.{calls_message}
use Rattle.object_makers.proofs.messages.call_message_method.Goals as goal

pub returns-in-Message-clause-answer : goal.returns-in-Message-clause-answer
returns-in-Message-clause-answer c =
    let list = first c.args.arguments.now c.message-item.result c.in-len1-up.len_at_least c.message-item.is in
    through c.message_method.result (λ r x. with_arguments (c.message-item.result ∷ take (length c.args.arguments.now - 1) (drop 1 c.args.arguments.now)) list (calls_message c.args.heap.now c.message_method.new.heap c.message-item.result (take (length c.args.arguments.now - 1) (drop 1 c.args.arguments.now)) r (method_of_message c.args.method) (search rules) x)) c.message_method.ensures.answer

pub returns-in_default-receiver_of : goal.returns-in_default-receiver_of
returns-in_default-receiver_of c =
    let list = first c.args.arguments.now c.message-item.result c.in-len1-up.len_at_least c.message-item.is in
    record { answer = with_arguments (c.message-item.result ∷ take (length c.args.arguments.now - 1) (drop 1 c.args.arguments.now)) list (refuses_message c.args.heap.now c.message-item.result (take (length c.args.arguments.now - 1) (drop 1 c.args.arguments.now)) (method_of_message c.args.method) c.receiver_of.result c.refusal.result c.receiver_of.ensures c.refusal.ensures c.in_default-receiver_of.not-Message); shares = omega arith }
