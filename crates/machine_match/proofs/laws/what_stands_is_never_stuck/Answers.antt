use Rattle.machine_match.proofs.Steps.{never_stuck}
use Rattle.machine_match.proofs.laws.what_stands_is_never_stuck.Goals as goal

pub returns : goal.returns
returns c = λ image p actor homes machine tree store stands both at_work. never_stuck image p actor homes store stands machine tree both at_work
