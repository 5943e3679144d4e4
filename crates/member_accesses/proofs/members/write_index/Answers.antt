use Rattle.std.proofs.Common.{[], ◌∷◌, sym, ◌∙◌, subst}
use Rattle.object_operations.specs.Applies.{Applies}
use Rattle.object_operations.specs.Members.{write_index_row}
use Rattle.object_operations.proofs.Answering.{through}
use Rattle.object_operations.proofs.Listing.{three}
use Rattle.member_accesses.proofs.Nodes.{index_is_set}
use Rattle.member_accesses.proofs.Objects.{with_operands, index_is_written}
use Rattle.member_accesses.proofs.members.write_index.Goals as goal

pub returns-in-Some-clause-answer : goal.returns-in-Some-clause-answer
returns-in-Some-clause-answer c =
    let list = three c.args.operands.now c.x-item.result c.i-item.result c.v-item.result c.in-len3.len_at_least c.in-len3.len_below c.x-item.is c.i-item.is c.v-item.is in
    through c.set_field_at.result
    (λ r y. with_operands (c.x-item.result ∷ c.i-item.result ∷ c.v-item.result ∷ []) list (index_is_set c.args.heap.now c.x-item.result c.i-item.result c.v-item.result c.in-Some.node r (sym c.node_of.ensures ∙ c.in-Some.is) y)) c.set_field_at.ensures

pub returns-in_ok-written-in-None-clause-answer : goal.returns-in_ok-written-in-None-clause-answer
returns-in_ok-written-in-None-clause-answer c =
    let list = three c.args.operands.now c.x-item.result c.i-item.result c.v-item.result c.in-len3.len_at_least c.in-len3.len_below c.x-item.is c.i-item.is c.v-item.is in
    with_operands (c.x-item.result ∷ c.i-item.result ∷ c.v-item.result ∷ []) list
    (index_is_written c.args.heap.now c.write_index.new.heap c.x-item.result c.i-item.result c.v-item.result c.in_ok-written-in-None.written (sym c.node_of.ensures ∙ c.in-None.is)
    (subst (λ l. Applies c.args.heap.now c.write_index.new.heap l c.in_ok-written-in-None.written write_index_row) list c.in_ok-written-in-None.ensures.answer))
