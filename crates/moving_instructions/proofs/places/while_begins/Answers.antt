use Rattle.moving_instructions.proofs.Leading.{while_row}
use Rattle.moving_instructions.proofs.places.while_begins.Goals as goal

pub returns : goal.returns
returns c = λ heap. while_row heap c.args.frames.now c.go_to.new.frames c.place_behind-next.result c.requires.there c.place_behind-next.ensures c.go_to.ensures
