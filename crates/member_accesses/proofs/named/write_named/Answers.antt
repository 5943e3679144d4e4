use Rattle.std.proofs.Common.{rules, arith}
use Rattle.object_operations.proofs.Answering.{through}
use Rattle.member_accesses.proofs.NamedLaws.{writes_named, refuses_write}
use Rattle.member_accesses.proofs.named.write_named.Goals as goal

pub returns-in-Pairs-clause-answer : goal.returns-in-Pairs-clause-answer
returns-in-Pairs-clause-answer c = through c.put.result (λ r x. writes_named c.args.heap.now c.put.new.heap c.args.x.now c.args.v.now c.args.name.now r (search rules) x) c.put.ensures.answer

pub returns-in_default : goal.returns-in_default
returns-in_default c = record { answer = refuses_write c.args.heap.now c.args.x.now c.args.v.now c.args.name.now c.receiver_of.result c.refusal.result c.receiver_of.ensures c.refusal.ensures c.in_default.not-Pairs; shares = omega arith }
