use Rattle.std.proofs.Common.{◌∷◌, ◌∙◌, refl, ap}
use Rattle.heap_meaning.specs.Values.{filler}
use Rattle.heap_meaning.specs.Cells.{occurrence}
use Rattle.frame_stack.specs.Operand.{Holds, each_of, operand_of}
use Rattle.frame_stack.specs.Frame.{operands_of}
use Rattle.frame_actions.proofs.Holding.{each_has_no_value}
use Rattle.frame_actions.proofs.Moving.{hands_value, hands_plain, value_taken}
use Rattle.frame_actions.proofs.operands.take_value.Goals as goal

pub returns-in-Value-clause-value : goal.returns-in-Value-clause-value
returns-in-Value-clause-value c = value_taken c.args.frames.now c.pop.new.self (Holds c.in-Value.v) c.in-Value.v (c.pop.ensures.taken ∙ ap (λ o. operand_of o ∷ operands_of c.pop.new.self) c.in-Value.is) refl

pub returns-in-Value-clause-hands : goal.returns-in-Value-clause-hands
returns-in-Value-clause-hands c = hands_value c.args.heap.now c.args.frames.now c.pop.new.self c.in-Value.v (c.pop.ensures.taken ∙ ap (λ o. operand_of o ∷ operands_of c.pop.new.self) c.in-Value.is) c.pop.ensures.rest

pub returns-in-Each-clause-value : goal.returns-in-Each-clause-value
returns-in-Each-clause-value c =
    c.plain.ensures ∙ value_taken c.args.frames.now c.pop.new.self (each_of c.in-Each.each) filler (c.pop.ensures.taken ∙ ap (λ o. operand_of o ∷ operands_of c.pop.new.self) c.in-Each.is) (each_has_no_value c.in-Each.each)

pub returns-in-Each-clause-hands : goal.returns-in-Each-clause-hands
returns-in-Each-clause-hands c =
    hands_plain c.args.heap.now c.release_operand.new.heap c.args.frames.now c.pop.new.self (each_of c.in-Each.each) c.plain.result (λ k. ap (occurrence k) c.plain.ensures) (c.pop.ensures.taken ∙ ap (λ o. operand_of o ∷ operands_of c.pop.new.self) c.in-Each.is) c.pop.ensures.rest
    c.release_operand.ensures.moves
