use Rattle.frame_actions.proofs.Moving.{on_ok_then}
use Rattle.literal_instructions.proofs.Making.{array_row_done}
use Rattle.literal_instructions.proofs.literals.make_array.Goals as goal

pub returns-clause-ok : goal.returns-clause-ok
returns-clause-ok c =
    on_ok_then c.replace_operands.result _ _
    (λ is.
    array_row_done c.args.heap.now c.array_of.new.heap c.replace_operands.new.heap c.args.frames.now c.replace_operands.new.frames c.args.count c.place_behind-next.result c.last.result.now c.in_ok-array.array c.requires.there c.place_behind-next.ensures c.last.ensures c.in_ok-array.ensures.made
    c.replace_operands.ensures.carries is)
    c.replace_operands.ensures.ok
