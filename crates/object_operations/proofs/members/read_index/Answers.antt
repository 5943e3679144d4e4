use Rattle.std.proofs.Common.{rules, arith, [], ◌∷◌}
use Rattle.object_operations.proofs.Answering.{through}
use Rattle.object_operations.proofs.Listing.{two}
use Rattle.object_operations.proofs.Told.{refuses_read_index, reads_item, reads_key, with_arguments}
use Rattle.object_operations.proofs.members.read_index.Goals as goal

pub returns-in-Array-clause-answer : goal.returns-in-Array-clause-answer
returns-in-Array-clause-answer c =
    let list = two c.args.arguments.now c.x-item.result c.i-item.result c.in-len2.len_at_least c.in-len2.len_below c.x-item.is c.i-item.is in
    with_arguments (c.x-item.result ∷ c.i-item.result ∷ []) list (reads_item c.args.heap.now c.item.new.heap c.x-item.result c.i-item.result c.item.result (search rules) c.item.ensures.answer)

pub returns-in-Pairs-clause-answer : goal.returns-in-Pairs-clause-answer
returns-in-Pairs-clause-answer c =
    let list = two c.args.arguments.now c.x-item.result c.i-item.result c.in-len2.len_at_least c.in-len2.len_below c.x-item.is c.i-item.is in
    through c.lookup.result (λ r x. with_arguments (c.x-item.result ∷ c.i-item.result ∷ []) list (reads_key c.args.heap.now c.lookup.new.heap c.x-item.result c.i-item.result r (search rules) x)) c.lookup.ensures.answer

pub returns-in_default-receiver_of : goal.returns-in_default-receiver_of
returns-in_default-receiver_of c =
    let list = two c.args.arguments.now c.x-item.result c.i-item.result c.in-len2.len_at_least c.in-len2.len_below c.x-item.is c.i-item.is in
    record { answer = with_arguments (c.x-item.result ∷ c.i-item.result ∷ []) list (refuses_read_index c.args.heap.now c.x-item.result c.i-item.result c.receiver_of.result c.refusal.result c.receiver_of.ensures c.refusal.ensures c.in_default-receiver_of.not-Array c.in_default-receiver_of.not-Pairs); shares = omega arith }
