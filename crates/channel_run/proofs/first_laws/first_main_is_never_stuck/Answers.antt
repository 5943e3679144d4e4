use Rattle.channel_run.proofs.FirstLive.{never_stuck}
use Rattle.channel_run.proofs.first_laws.first_main_is_never_stuck.Goals as goal

pub returns : goal.returns
returns c = never_stuck
