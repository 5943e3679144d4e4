use Rattle.frame_actions.proofs.Holding.{moved}
use Rattle.frame_actions.proofs.places.go_to.Goals as goal

pub returns : goal.returns
returns c = moved c.args.frames.now c.set_head.new.self c.head-head.result c.args.place c.head-head.ensures c.set_head.ensures
