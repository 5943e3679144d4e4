use Rattle.actor_meaning.proofs.Calls.{refused_by_number}
use Rattle.actor_meaning.proofs.laws.a_wrong_number_of_arguments_is_refused.Goals as goal

pub returns : goal.returns
returns c = refused_by_number
