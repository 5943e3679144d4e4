use Rattle.brs_meaning.proofs.SameStep.{no_step}
use Rattle.brs_meaning.proofs.laws.waiting_has_no_step.Goals as goal

pub returns : goal.returns
returns c = no_step
