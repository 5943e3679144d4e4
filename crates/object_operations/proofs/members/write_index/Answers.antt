use Rattle.std.proofs.Common.{rules, arith, [], ◌∷◌}
use Rattle.object_operations.proofs.Answering.{through}
use Rattle.object_operations.proofs.Listing.{three}
use Rattle.object_operations.proofs.Told.{refuses_write_index, writes_item, writes_key, with_arguments}
use Rattle.object_operations.proofs.members.write_index.Goals as goal

pub returns-in-Array-clause-answer : goal.returns-in-Array-clause-answer
returns-in-Array-clause-answer c =
    let list = three c.args.arguments.now c.x-item.result c.i-item.result c.v-item.result c.in-len3.len_at_least c.in-len3.len_below c.x-item.is c.i-item.is c.v-item.is in
    through c.put_item.result (λ r x. with_arguments (c.x-item.result ∷ c.i-item.result ∷ c.v-item.result ∷ []) list (writes_item c.args.heap.now c.put_item.new.heap c.x-item.result c.i-item.result c.v-item.result r (search rules) x)) c.put_item.ensures.answer

pub returns-in-Pairs-clause-answer : goal.returns-in-Pairs-clause-answer
returns-in-Pairs-clause-answer c =
    let list = three c.args.arguments.now c.x-item.result c.i-item.result c.v-item.result c.in-len3.len_at_least c.in-len3.len_below c.x-item.is c.i-item.is c.v-item.is in
    through c.put.result (λ r x. with_arguments (c.x-item.result ∷ c.i-item.result ∷ c.v-item.result ∷ []) list (writes_key c.args.heap.now c.put.new.heap c.x-item.result c.i-item.result c.v-item.result r (search rules) x)) c.put.ensures.answer

pub returns-in_default-receiver_of : goal.returns-in_default-receiver_of
returns-in_default-receiver_of c =
    let list = three c.args.arguments.now c.x-item.result c.i-item.result c.v-item.result c.in-len3.len_at_least c.in-len3.len_below c.x-item.is c.i-item.is c.v-item.is in
    record { answer = with_arguments (c.x-item.result ∷ c.i-item.result ∷ c.v-item.result ∷ []) list (refuses_write_index c.args.heap.now c.x-item.result c.i-item.result c.v-item.result c.receiver_of.result c.refusal.result c.receiver_of.ensures c.refusal.ensures c.in_default-receiver_of.not-Array c.in_default-receiver_of.not-Pairs); shares = omega arith }
