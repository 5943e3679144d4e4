use Rattle.machine_match.proofs.Waiting.{runs_same}
use Rattle.machine_match.proofs.laws.many_steps_are_as_many_reductions.Goals as goal

pub returns : goal.returns
returns c = λ image p actor homes n machine tree store shown stands both runs. runs_same image p actor homes stands n machine tree store shown both runs
