use Rattle.std.proofs.Common.{sym, ◌∙◌}
use Rattle.moving_instructions.proofs.Going.{carries_place, carries_both}
use Rattle.loop_instructions.proofs.Standing.{next_faults, next_stands}
use Rattle.loop_instructions.proofs.counted.next_for.Goals as goal

pub returns-in-None-clause-does : goal.returns-in-None-clause-does
returns-in-None-clause-does c =
    next_faults c.args.heap.now c.args.frames.now c.args.slot c.args.to c.slot_number-variable.result c.operand_number-step.result c.requires.operands c.slot_number-variable.ensures c.operand_number-step.ensures (sym c.sum_of.ensures ∙ c.in-None.is)

pub returns-in-Some-clause-does : goal.returns-in-Some-clause-does
returns-in-Some-clause-does c =
    next_stands c.args.heap.now c.set_number.new.heap c.args.frames.now c.set_number.new.frames c.go_to.new.frames c.args.slot c.args.to c.slot_number-variable.result c.operand_number-step.result c.in-Some.sum c.requires.operands
    c.slot_number-variable.ensures c.operand_number-step.ensures (sym c.sum_of.ensures ∙ c.in-Some.is)
    (carries_both c.args.heap.now c.set_number.new.heap c.set_number.new.heap c.args.frames.now c.set_number.new.frames c.go_to.new.frames c.set_number.ensures.carries
    (carries_place c.set_number.new.heap c.set_number.new.frames c.go_to.new.frames c.args.to c.go_to.ensures))
    c.set_number.ensures.frames c.go_to.ensures
