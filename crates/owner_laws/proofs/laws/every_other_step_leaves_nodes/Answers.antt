use Rattle.owner_laws.proofs.Isolating.{steps_alone}
use Rattle.owner_laws.proofs.laws.every_other_step_leaves_nodes.Goals as goal

pub returns : goal.returns
returns c = steps_alone
