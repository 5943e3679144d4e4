use Rattle.actor_meaning.proofs.Calls.{ended_by_release}
use Rattle.actor_meaning.proofs.laws.what_was_held_is_taken_back.Goals as goal

pub returns : goal.returns
returns c = ended_by_release
