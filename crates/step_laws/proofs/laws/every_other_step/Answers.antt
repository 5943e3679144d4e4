use Rattle.step_laws.proofs.Isolated.{other_steps}
use Rattle.step_laws.proofs.laws.every_other_step.Goals as goal

pub returns : goal.returns
returns c = other_steps
