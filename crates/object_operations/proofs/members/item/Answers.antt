use Rattle.std.proofs.Common.{rules, sym, ◌∙◌}
use Rattle.object_operations.proofs.ArrayLaws.{handed, unmoved}
use Rattle.object_operations.proofs.ArrayLoops.{none_of}
use Rattle.object_operations.proofs.ItemLaws.{reads_no_number, reads_below, reads_none, reads_some}
use Rattle.object_operations.proofs.members.item.Goals as goal

pub returns-in_default-clause-answer : goal.returns-in_default-clause-answer
returns-in_default-clause-answer c = reads_no_number c.args.heap.now c.args.array.now c.args.i.now (none_of _ c.number.ensures c.in_default.not-Some)

pub returns-in-None-clause-answer : goal.returns-in-None-clause-answer
returns-in-None-clause-answer c = handed c.plain.ensures (reads_below c.args.heap.now c.args.array.now c.args.i.now c.in-Some.n (sym c.number.ensures ∙ c.in-Some.is) (search rules))

pub returns-in-None-share_item-clause-answer : goal.returns-in-None-share_item-clause-answer
returns-in-None-share_item-clause-answer c = handed c.plain-in-None-share_item.ensures (unmoved c.in-None-share_item.ensures.unchanged (reads_none c.args.heap.now c.args.array.now c.args.i.now c.in-Some.n c.in-Some-place.at (sym c.number.ensures ∙ c.in-Some.is) (search rules) (sym c.share_item.ensures.same ∙ c.in-None-share_item.is)))

pub returns-in-Some-share_item-clause-answer : goal.returns-in-Some-share_item-clause-answer
returns-in-Some-share_item-clause-answer c = reads_some c.args.heap.now c.share_item.new.self c.args.array.now c.args.i.now c.in-Some-share_item.item c.in-Some.n c.in-Some-place.at (sym c.number.ensures ∙ c.in-Some.is) (search rules) (sym c.share_item.ensures.same ∙ c.in-Some-share_item.is) c.in-Some-share_item.ensures.moves
