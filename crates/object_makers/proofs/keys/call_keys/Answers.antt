use Rattle.std.proofs.Common.{rules, arith, ◌∷◌, ◌-◌, length, take, drop}
use Rattle.object_operations.specs.Maps.{keys_row}
use Rattle.object_operations.proofs.Answering.{through}
use Rattle.object_operations.proofs.Listing.{first}
use Rattle.object_operations.proofs.Told.{refuses_map, calls_map, with_arguments}
use Rattle.object_makers.proofs.keys.call_keys.Goals as goal

pub returns-in-Pairs-clause-answer : goal.returns-in-Pairs-clause-answer
returns-in-Pairs-clause-answer c =
    let list = first c.args.arguments.now c.pairs-item.result c.in-len1-up.len_at_least c.pairs-item.is in
    through c.keys_of_map.result (λ r x. with_arguments (c.pairs-item.result ∷ take (length c.args.arguments.now - 1) (drop 1 c.args.arguments.now)) list (calls_map c.args.heap.now c.keys_of_map.new.heap c.pairs-item.result (take (length c.args.arguments.now - 1) (drop 1 c.args.arguments.now)) r keys_row (search rules) x)) c.keys_of_map.ensures.answer

pub returns-in_default-receiver_of : goal.returns-in_default-receiver_of
returns-in_default-receiver_of c =
    let list = first c.args.arguments.now c.pairs-item.result c.in-len1-up.len_at_least c.pairs-item.is in
    record { answer = with_arguments (c.pairs-item.result ∷ take (length c.args.arguments.now - 1) (drop 1 c.args.arguments.now)) list (refuses_map c.args.heap.now c.pairs-item.result (take (length c.args.arguments.now - 1) (drop 1 c.args.arguments.now)) keys_row c.receiver_of.result c.refusal.result c.receiver_of.ensures c.refusal.ensures c.in_default-receiver_of.not-Pairs); shares = omega arith }
