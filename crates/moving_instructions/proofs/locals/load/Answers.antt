use Rattle.std.proofs.Common.{refl}
use Rattle.frame_stack.specs.Frame.{slot_value, slots_of}
use Rattle.moving_instructions.proofs.Going.{if_ok_then}
use Rattle.moving_instructions.proofs.Values.{load_row}
use Rattle.moving_instructions.proofs.locals.load.Goals as goal

pub returns-clause-ok : goal.returns-clause-ok
returns-clause-ok c =
    if_ok_then c.load_slot.result _ _
    (λ is_set loaded. load_row c.args.heap.now c.load_slot.new.heap c.args.frames.now c.load_slot.new.frames c.args.slot c.place_behind-next.result (slot_value (slots_of c.args.frames.now) c.args.slot) is_set c.requires.there c.place_behind-next.ensures refl loaded)
    c.load_slot.ensures.loaded
