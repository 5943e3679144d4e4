use Rattle.moving_instructions.proofs.Leading.{drop_row}
use Rattle.moving_instructions.proofs.places.drop_last.Goals as goal

pub returns-clause-does : goal.returns-clause-does
returns-clause-does c =
    drop_row c.args.heap.now c.drop_to.new.heap c.args.frames.now c.drop_to.new.frames c.place_behind-next.result c.requires.there c.place_behind-next.ensures c.drop_to.ensures.carries c.drop_to.ensures.frames
