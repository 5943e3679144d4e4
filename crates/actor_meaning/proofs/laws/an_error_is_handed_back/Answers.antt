use Rattle.actor_meaning.proofs.Calls.{handed_back}
use Rattle.actor_meaning.proofs.laws.an_error_is_handed_back.Goals as goal

pub returns : goal.returns
returns c = handed_back
