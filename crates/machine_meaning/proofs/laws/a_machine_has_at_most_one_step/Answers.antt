use Rattle.machine_meaning.proofs.OneStep.{one_step}
use Rattle.machine_meaning.proofs.laws.a_machine_has_at_most_one_step.Goals as goal

pub returns : goal.returns
returns c = one_step
