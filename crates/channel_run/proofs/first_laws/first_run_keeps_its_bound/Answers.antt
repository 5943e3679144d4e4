use Rattle.channel_run.proofs.FirstBounds.{steps_bounded}
use Rattle.channel_run.proofs.first_laws.first_run_keeps_its_bound.Goals as goal

pub returns : goal.returns
returns c = steps_bounded
