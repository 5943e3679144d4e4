use Rattle.channel_laws.proofs.Steps.{step_keeps}
use Rattle.channel_laws.proofs.laws.every_step_keeps.Goals as goal

pub returns : goal.returns
returns c = step_keeps
