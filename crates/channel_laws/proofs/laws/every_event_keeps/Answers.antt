use Rattle.channel_laws.proofs.Events.{happens_keeps}
use Rattle.channel_laws.proofs.laws.every_event_keeps.Goals as goal

pub returns : goal.returns
returns c = happens_keeps
