use Rattle.kind_plans.proofs.Standing.{stand_before}
use Rattle.kind_plans.proofs.laws.named_kinds_stand_before.Goals as goal

pub returns : goal.returns
returns c = stand_before
