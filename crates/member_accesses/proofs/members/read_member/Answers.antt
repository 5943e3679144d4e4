use Rattle.std.proofs.Common.{[], ◌∷◌, sym, ◌∙◌}
use Rattle.object_operations.proofs.Answering.{through}
use Rattle.object_operations.proofs.Listing.{only_one}
use Rattle.member_accesses.proofs.Nodes.{member_is_got}
use Rattle.member_accesses.proofs.Objects.{with_operands, member_is_read}
use Rattle.member_accesses.proofs.members.read_member.Goals as goal

pub returns-in-Some-clause-answer : goal.returns-in-Some-clause-answer
returns-in-Some-clause-answer c =
    let list = only_one c.args.operands.now c.x-item.result c.in-len1.len_at_least c.in-len1.len_below c.x-item.is in
    through c.get_field.result (λ r e. with_operands (c.x-item.result ∷ []) list (member_is_got c.args.heap.now c.x-item.result c.in-Some.node c.args.name.now r (sym c.node_of.ensures ∙ c.in-Some.is) e)) c.get_field.ensures

pub returns-in-None-clause-answer : goal.returns-in-None-clause-answer
returns-in-None-clause-answer c =
    let list = only_one c.args.operands.now c.x-item.result c.in-len1.len_at_least c.in-len1.len_below c.x-item.is in
    with_operands (c.x-item.result ∷ []) list (member_is_read c.args.heap.now c.read_named-member.new.heap c.x-item.result c.args.name.now c.read_named-member.result (sym c.node_of.ensures ∙ c.in-None.is) c.read_named-member.ensures.answer)
