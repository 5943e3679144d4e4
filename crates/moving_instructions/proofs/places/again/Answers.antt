use Rattle.moving_instructions.proofs.Leading.{again_row}
use Rattle.moving_instructions.proofs.places.again.Goals as goal

pub returns : goal.returns
returns c = λ heap. again_row heap c.args.frames.now c.go_to.new.frames c.args.to c.requires c.go_to.ensures
