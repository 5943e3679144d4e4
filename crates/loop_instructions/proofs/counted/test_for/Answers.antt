use Rattle.std.proofs.Common.{sym, ◌∙◌}
use Rattle.loop_instructions.proofs.Standing.{test_faults, test_stands}
use Rattle.loop_instructions.proofs.counted.test_for.Goals as goal

pub returns-in-None-clause-does : goal.returns-in-None-clause-does
returns-in-None-clause-does c =
    test_faults c.args.heap.now c.args.frames.now c.args.slot c.args.to c.slot_number-now.result c.operand_number-end.result c.operand_number-step.result c.requires.operands c.slot_number-now.ensures c.operand_number-end.ensures c.operand_number-step.ensures
    (sym c.range_of.ensures ∙ c.in-None.is)

pub returns-in-Some-clause-does : goal.returns-in-Some-clause-does
returns-in-Some-clause-does c =
    test_stands c.args.heap.now c.turn.new.heap c.args.frames.now c.turn.new.frames c.args.slot c.place_behind-next.result c.args.to c.slot_number-now.result c.operand_number-end.result c.operand_number-step.result c.in-Some.range c.goes_on.result
    c.requires.operands c.place_behind-next.ensures c.slot_number-now.ensures c.operand_number-end.ensures c.operand_number-step.ensures (sym c.range_of.ensures ∙ c.in-Some.is) c.goes_on.ensures c.turn.ensures.carries c.turn.ensures.frames
