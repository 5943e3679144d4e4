use Rattle.moving_instructions.proofs.Choosing.{and_row}
use Rattle.moving_instructions.proofs.conditions.and_decides.Goals as goal

pub returns : goal.returns
returns c = λ heap. and_row heap c.args.frames.now c.go_to.new.frames c.args.to c.requires c.go_to.ensures
