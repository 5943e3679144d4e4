use Rattle.channel_laws.proofs.Events.{every_run}
use Rattle.channel_laws.proofs.laws.every_run.Goals as goal

pub returns : goal.returns
returns c = every_run
