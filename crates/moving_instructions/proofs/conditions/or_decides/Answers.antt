use Rattle.moving_instructions.proofs.Choosing.{or_row}
use Rattle.moving_instructions.proofs.conditions.or_decides.Goals as goal

pub returns : goal.returns
returns c = λ heap. or_row heap c.args.frames.now c.go_to.new.frames c.args.to c.requires c.go_to.ensures
