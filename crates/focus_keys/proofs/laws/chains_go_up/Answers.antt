use Rattle.focus_keys.proofs.Chains.{goes_up}
use Rattle.focus_keys.proofs.laws.chains_go_up.Goals as goal

pub returns : goal.returns
returns c = goes_up
