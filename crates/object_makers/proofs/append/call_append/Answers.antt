use Rattle.std.proofs.Common.{rules, arith, ◌∷◌, ◌-◌, length, take, drop}
use Rattle.object_operations.specs.Maps.{append_keys_row}
use Rattle.object_operations.proofs.Answering.{through}
use Rattle.object_operations.proofs.Listing.{first}
use Rattle.object_operations.proofs.Told.{refuses_map, calls_map, with_arguments}
use Rattle.object_makers.proofs.append.call_append.Goals as goal

pub returns-in-Pairs-clause-answer : goal.returns-in-Pairs-clause-answer
returns-in-Pairs-clause-answer c =
    let list = first c.args.arguments.now c.pairs-item.result c.in-len1-up.len_at_least c.pairs-item.is in
    through c.append_to_map.result (λ r x. with_arguments (c.pairs-item.result ∷ take (length c.args.arguments.now - 1) (drop 1 c.args.arguments.now)) list (calls_map c.args.heap.now c.append_to_map.new.heap c.pairs-item.result (take (length c.args.arguments.now - 1) (drop 1 c.args.arguments.now)) r append_keys_row (search rules) x)) c.append_to_map.ensures.answer

pub returns-in_default-receiver_of : goal.returns-in_default-receiver_of
returns-in_default-receiver_of c =
    let list = first c.args.arguments.now c.pairs-item.result c.in-len1-up.len_at_least c.pairs-item.is in
    record { answer = with_arguments (c.pairs-item.result ∷ take (length c.args.arguments.now - 1) (drop 1 c.args.arguments.now)) list (refuses_map c.args.heap.now c.pairs-item.result (take (length c.args.arguments.now - 1) (drop 1 c.args.arguments.now)) append_keys_row c.receiver_of.result c.refusal.result c.receiver_of.ensures c.refusal.ensures c.in_default-receiver_of.not-Pairs); shares = omega arith }
