use Rattle.call_release.proofs.Dropping.{is_bare, ended}
use Rattle.call_release.proofs.release.release_call.Goals as goal

pub leave-m-requires : goal.leave-m-requires
leave-m-requires c =
    let b = is_bare c.args.frames.now c.drop_operands.new.frames c.drop_slots.new.frames c.operand_count-operands.result c.requires c.operand_count-operands.ensures c.drop_operands.ensures.frames c.drop_slots.ensures.frames in
    record { there = b.there; operands = b.operands; slots = b.slots }

pub returns-clause-moves : goal.returns-clause-moves
returns-clause-moves c =
    let e = ended c.args.heap.now c.drop_operands.new.heap c.drop_slots.new.heap c.release.new.self c.args.frames.now c.drop_operands.new.frames c.drop_slots.new.frames c.leave-m.new.self c.operand_count-operands.result c.leave-m.result c.requires c.operand_count-operands.ensures c.drop_operands.ensures.moves c.drop_operands.ensures.frames c.drop_slots.ensures.moves c.drop_slots.ensures.frames c.leave-m.ensures.value c.leave-m.ensures.below c.release.ensures.moves in
    e.moves

pub returns-clause-frames : goal.returns-clause-frames
returns-clause-frames c =
    let e = ended c.args.heap.now c.drop_operands.new.heap c.drop_slots.new.heap c.release.new.self c.args.frames.now c.drop_operands.new.frames c.drop_slots.new.frames c.leave-m.new.self c.operand_count-operands.result c.leave-m.result c.requires c.operand_count-operands.ensures c.drop_operands.ensures.moves c.drop_operands.ensures.frames c.drop_slots.ensures.moves c.drop_slots.ensures.frames c.leave-m.ensures.value c.leave-m.ensures.below c.release.ensures.moves in
    e.frames
