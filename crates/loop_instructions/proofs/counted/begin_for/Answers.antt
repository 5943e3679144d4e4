use Rattle.std.proofs.Common.{sym, ◌∙◌}
use Rattle.loop_instructions.proofs.Beginning.{for_faults, for_begun}
use Rattle.loop_instructions.proofs.counted.begin_for.Goals as goal

pub returns-in-None-clause-ok : goal.returns-in-None-clause-ok
returns-in-None-clause-ok c =
    for_faults c.args.heap.now c.args.frames.now c.args.slot c.operand_number-start.result c.operand_number-end.result c.requires.operands c.operand_number-start.ensures c.operand_number-end.ensures (sym c.range_of.ensures ∙ c.in-None.is)

pub returns-in_ok-begin-in-Some-clause-ok : goal.returns-in_ok-begin-in-Some-clause-ok
returns-in_ok-begin-in-Some-clause-ok c =
    for_begun c.args.heap.now c.begin.new.heap c.args.frames.now c.begin.new.frames c.args.slot c.place_behind-next.result c.operand_number-start.result c.operand_number-end.result c.in-Some.range c.requires.operands c.place_behind-next.ensures
    c.operand_number-start.ensures c.operand_number-end.ensures (sym c.range_of.ensures ∙ c.in-Some.is) c.in_ok-begin-in-Some.ensures.carries c.in_ok-begin-in-Some.ensures.frames
