use Rattle.std.proofs.Common.{ap, ◌-◌, ◌∙◌}
use Rattle.object_operations.proofs.ArrayLaws.{pops}
use Rattle.object_operations.proofs.arrays.pop.Goals as goal

pub returns-clause-answer : goal.returns-clause-answer
returns-clause-answer c = pops c.args.heap.now c.take_at.new.heap c.args.array.now c.saturating_sub-last.result c.take_at.result (c.saturating_sub-last.ensures ∙ ap (λ j. j - 1) c.length.ensures) c.take_at.ensures.answer
