use Rattle.frame_actions.proofs.Moving.{carries_release}
use Rattle.frame_actions.proofs.conditions.take_truth.Goals as goal

pub returns-clause-carries : goal.returns-clause-carries
returns-clause-carries c = carries_release c.args.heap.now c.take_value-v.new.heap c.release.new.self c.args.frames.now c.take_value-v.new.frames c.take_value-v.result c.take_value-v.ensures.hands c.release.ensures.moves
