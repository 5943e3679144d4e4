use Rattle.channel_meaning.proofs.Bounds.{run_within}
use Rattle.channel_meaning.proofs.laws.no_run_passes_its_bound.Goals as goal

pub returns : goal.returns
returns c = run_within
