use Rattle.std.proofs.Common.{[], ◌∷◌, sym, ◌∙◌, subst}
use Rattle.object_operations.specs.Applies.{Applies}
use Rattle.object_operations.specs.Members.{read_index_row}
use Rattle.object_operations.proofs.Answering.{through}
use Rattle.object_operations.proofs.Listing.{two}
use Rattle.member_accesses.proofs.Nodes.{index_is_got}
use Rattle.member_accesses.proofs.Objects.{with_operands, index_is_read}
use Rattle.member_accesses.proofs.members.read_index.Goals as goal

pub returns-in-Some-clause-answer : goal.returns-in-Some-clause-answer
returns-in-Some-clause-answer c =
    let list = two c.args.operands.now c.x-item.result c.i-item.result c.in-len2.len_at_least c.in-len2.len_below c.x-item.is c.i-item.is in
    through c.get_field_at.result (λ r e. with_operands (c.x-item.result ∷ c.i-item.result ∷ []) list (index_is_got c.args.heap.now c.x-item.result c.i-item.result c.in-Some.node r (sym c.node_of.ensures ∙ c.in-Some.is) e)) c.get_field_at.ensures

pub returns-in_ok-item-in-None-clause-answer : goal.returns-in_ok-item-in-None-clause-answer
returns-in_ok-item-in-None-clause-answer c =
    let list = two c.args.operands.now c.x-item.result c.i-item.result c.in-len2.len_at_least c.in-len2.len_below c.x-item.is c.i-item.is in
    with_operands (c.x-item.result ∷ c.i-item.result ∷ []) list
    (index_is_read c.args.heap.now c.read_index.new.heap c.x-item.result c.i-item.result c.in_ok-item-in-None.item (sym c.node_of.ensures ∙ c.in-None.is)
    (subst (λ l. Applies c.args.heap.now c.read_index.new.heap l c.in_ok-item-in-None.item read_index_row) list c.in_ok-item-in-None.ensures.answer))
