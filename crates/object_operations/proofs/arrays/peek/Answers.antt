use Rattle.std.proofs.Common.{ap, ◌-◌, sym, ◌∙◌}
use Rattle.object_operations.proofs.ArrayLaws.{peeks_none, peeks_item, handed, unmoved}
use Rattle.object_operations.proofs.arrays.peek.Goals as goal

pub returns-in-None-clause-answer : goal.returns-in-None-clause-answer
returns-in-None-clause-answer c = handed c.plain.ensures (unmoved c.in-None.ensures.unchanged (peeks_none c.args.heap.now c.args.array.now c.saturating_sub-last.result (c.saturating_sub-last.ensures ∙ ap (λ j. j - 1) c.length.ensures) (sym c.share_item.ensures.same ∙ c.in-None.is)))

pub returns-in-Some-clause-answer : goal.returns-in-Some-clause-answer
returns-in-Some-clause-answer c = peeks_item c.args.heap.now c.share_item.new.self c.args.array.now c.in-Some.item c.saturating_sub-last.result (c.saturating_sub-last.ensures ∙ ap (λ j. j - 1) c.length.ensures) (sym c.share_item.ensures.same ∙ c.in-Some.is) c.in-Some.ensures.moves
