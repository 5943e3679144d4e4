use Rattle.world_meaning.proofs.PortableTrees.{portable_is}
use Rattle.world_meaning.proofs.laws.messages_hold_their_values.Goals as goal

pub returns : goal.returns
returns c = portable_is
