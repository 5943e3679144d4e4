use Rattle.std.proofs.Common.{ap}
use Rattle.heap_meaning.specs.Cells.{occurrence}
use Rattle.loop_instructions.proofs.Carrying.{carries_set}
use Rattle.loop_instructions.proofs.changes.set_number.Goals as goal

pub returns-clause-carries : goal.returns-clause-carries
returns-clause-carries c =
    carries_set c.args.heap.now c.release_slot.new.heap c.args.frames.now c.set_slot-was.new.self c.args.slot c.plain.result c.set_slot-was.result (λ k. ap (occurrence k) c.plain.ensures) c.requires c.set_slot-was.ensures.value c.set_slot-was.ensures.set
    c.release_slot.ensures.moves
