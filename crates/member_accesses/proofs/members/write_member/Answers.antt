use Rattle.std.proofs.Common.{[], ◌∷◌, sym, ◌∙◌}
use Rattle.object_operations.proofs.Answering.{through}
use Rattle.object_operations.proofs.Listing.{two}
use Rattle.member_accesses.proofs.Nodes.{member_is_set}
use Rattle.member_accesses.proofs.Objects.{with_operands, member_is_written}
use Rattle.member_accesses.proofs.members.write_member.Goals as goal

pub returns-in-Some-clause-answer : goal.returns-in-Some-clause-answer
returns-in-Some-clause-answer c =
    let list = two c.args.operands.now c.x-item.result c.v-item.result c.in-len2.len_at_least c.in-len2.len_below c.x-item.is c.v-item.is in
    through c.set_field.result (λ r y. with_operands (c.x-item.result ∷ c.v-item.result ∷ []) list (member_is_set c.args.heap.now c.x-item.result c.v-item.result c.in-Some.node c.args.name.now r (sym c.node_of.ensures ∙ c.in-Some.is) y)) c.set_field.ensures

pub returns-in_ok-written-in-None-clause-answer : goal.returns-in_ok-written-in-None-clause-answer
returns-in_ok-written-in-None-clause-answer c =
    let list = two c.args.operands.now c.x-item.result c.v-item.result c.in-len2.len_at_least c.in-len2.len_below c.x-item.is c.v-item.is in
    with_operands (c.x-item.result ∷ c.v-item.result ∷ []) list
    (member_is_written c.args.heap.now c.write_named.new.heap c.x-item.result c.v-item.result c.args.name.now c.in_ok-written-in-None.written (sym c.node_of.ensures ∙ c.in-None.is) c.in_ok-written-in-None.ensures.answer)
