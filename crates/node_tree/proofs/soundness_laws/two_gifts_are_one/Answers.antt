use Rattle.node_tree.proofs.TwoGifts.{every_two_gifts}
use Rattle.node_tree.proofs.soundness_laws.two_gifts_are_one.Goals as goal

pub returns : goal.returns
returns c = every_two_gifts
