use Rattle.std.proofs.Common.{rules, arith, [], ◌∷◌}
use Rattle.object_operations.proofs.Answering.{through}
use Rattle.object_operations.proofs.Listing.{two}
use Rattle.object_operations.proofs.Told.{refuses_read_member, reads_member, with_arguments}
use Rattle.object_operations.proofs.members.read_member.Goals as goal

pub returns-in-Pairs-clause-answer : goal.returns-in-Pairs-clause-answer
returns-in-Pairs-clause-answer c =
    let list = two c.args.arguments.now c.x-item.result c.k-item.result c.in-len2.len_at_least c.in-len2.len_below c.x-item.is c.k-item.is in
    through c.lookup.result (λ r x. with_arguments (c.x-item.result ∷ c.k-item.result ∷ []) list (reads_member c.args.heap.now c.lookup.new.heap c.x-item.result c.k-item.result r (search rules) x)) c.lookup.ensures.answer

pub returns-in_default-receiver_of : goal.returns-in_default-receiver_of
returns-in_default-receiver_of c =
    let list = two c.args.arguments.now c.x-item.result c.k-item.result c.in-len2.len_at_least c.in-len2.len_below c.x-item.is c.k-item.is in
    record { answer = with_arguments (c.x-item.result ∷ c.k-item.result ∷ []) list (refuses_read_member c.args.heap.now c.x-item.result c.k-item.result c.receiver_of.result c.refusal.result c.receiver_of.ensures c.refusal.ensures c.in_default-receiver_of.not-Pairs); shares = omega arith }
