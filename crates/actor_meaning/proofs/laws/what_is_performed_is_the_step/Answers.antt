use Rattle.actor_meaning.proofs.Steps.{performed}
use Rattle.actor_meaning.proofs.laws.what_is_performed_is_the_step.Goals as goal

pub returns : goal.returns
returns c = performed
