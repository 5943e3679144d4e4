use Rattle.moving_instructions.proofs.Going.{carries_place}
use Rattle.loop_instructions.proofs.changes.turn.Goals as goal

pub returns-then-stays-clause-carries : goal.returns-then-stays-clause-carries
returns-then-stays-clause-carries c = carries_place c.args.heap.now c.args.frames.now c.go_to.new.frames c.args.body c.go_to.ensures
