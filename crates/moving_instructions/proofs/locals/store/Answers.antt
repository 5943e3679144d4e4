use Rattle.moving_instructions.proofs.Values.{store_row}
use Rattle.moving_instructions.proofs.locals.store.Goals as goal

pub returns-clause-does : goal.returns-clause-does
returns-clause-does c =
    store_row c.args.heap.now c.store.new.heap c.args.frames.now c.store.new.frames c.args.slot c.place_behind-next.result c.requires.operand c.place_behind-next.ensures c.store.ensures.carries c.store.ensures.frames
