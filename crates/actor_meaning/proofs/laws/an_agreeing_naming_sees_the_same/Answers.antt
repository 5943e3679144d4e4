use Rattle.actor_meaning.proofs.Naming.{renamed}
use Rattle.actor_meaning.proofs.laws.an_agreeing_naming_sees_the_same.Goals as goal

pub returns : goal.returns
returns c = renamed
