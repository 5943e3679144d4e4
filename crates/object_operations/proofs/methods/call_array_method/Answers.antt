use Rattle.std.proofs.Common.{rules, arith, ◌∷◌, ◌-◌, length, take, drop}
use Rattle.object_operations.specs.Arrays.{method_of_array}
use Rattle.object_operations.proofs.Answering.{through}
use Rattle.object_operations.proofs.Listing.{first}
use Rattle.object_operations.proofs.Told.{refuses_array, calls_array, with_arguments}
use Rattle.object_operations.proofs.methods.call_array_method.Goals as goal

pub returns-in-Array-clause-answer : goal.returns-in-Array-clause-answer
returns-in-Array-clause-answer c =
    let list = first c.args.arguments.now c.array-item.result c.in-len1-up.len_at_least c.array-item.is in
    through c.array_method.result (λ r x. with_arguments (c.array-item.result ∷ take (length c.args.arguments.now - 1) (drop 1 c.args.arguments.now)) list (calls_array c.args.heap.now c.array_method.new.heap c.array-item.result (take (length c.args.arguments.now - 1) (drop 1 c.args.arguments.now)) r (method_of_array c.args.method) (search rules) x)) c.array_method.ensures.answer

pub returns-in_default-receiver_of : goal.returns-in_default-receiver_of
returns-in_default-receiver_of c =
    let list = first c.args.arguments.now c.array-item.result c.in-len1-up.len_at_least c.array-item.is in
    record { answer = with_arguments (c.array-item.result ∷ take (length c.args.arguments.now - 1) (drop 1 c.args.arguments.now)) list (refuses_array c.args.heap.now c.array-item.result (take (length c.args.arguments.now - 1) (drop 1 c.args.arguments.now)) (method_of_array c.args.method) c.receiver_of.result c.refusal.result c.receiver_of.ensures c.refusal.ensures c.in_default-receiver_of.not-Array); shares = omega arith }
