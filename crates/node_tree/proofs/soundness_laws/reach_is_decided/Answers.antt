use Rattle.node_tree.proofs.Reached.{every_reach}
use Rattle.node_tree.proofs.soundness_laws.reach_is_decided.Goals as goal

pub returns : goal.returns
returns c = every_reach
