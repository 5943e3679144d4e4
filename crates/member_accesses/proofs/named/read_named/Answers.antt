use Rattle.std.proofs.Common.{rules, arith}
use Rattle.member_accesses.proofs.NamedLaws.{reads_named, refuses_read}
use Rattle.member_accesses.proofs.named.read_named.Goals as goal

pub returns-in-Pairs-clause-answer : goal.returns-in-Pairs-clause-answer
returns-in-Pairs-clause-answer c = reads_named c.args.heap.now c.look_up.new.heap c.args.x.now c.args.name.now c.look_up.result (search rules) c.look_up.ensures.answer

pub returns-in_default : goal.returns-in_default
returns-in_default c = record { answer = refuses_read c.args.heap.now c.args.x.now c.args.name.now c.receiver_of.result c.refusal.result c.receiver_of.ensures c.refusal.ensures c.in_default.not-Pairs; shares = omega arith }
