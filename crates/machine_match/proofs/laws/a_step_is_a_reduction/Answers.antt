use Rattle.machine_match.proofs.Steps.{step_is_reduction}
use Rattle.machine_match.proofs.laws.a_step_is_a_reduction.Goals as goal

pub returns : goal.returns
returns c = λ image p actor homes machine tree store s stands both step. step_is_reduction image p actor homes store stands machine tree s both step
