use Rattle.moving_instructions.proofs.Leading.{exit_row}
use Rattle.moving_instructions.proofs.places.exit.Goals as goal

pub returns-clause-does : goal.returns-clause-does
returns-clause-does c = exit_row c.args.heap.now c.drop_to.new.heap c.args.frames.now c.drop_to.new.frames c.args.count c.args.to c.requires.there c.drop_to.ensures.carries c.drop_to.ensures.frames
