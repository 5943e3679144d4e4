use Rattle.channel_laws.proofs.Events.{opens}
use Rattle.channel_laws.proofs.laws.every_opening.Goals as goal

pub returns : goal.returns
returns c = opens
