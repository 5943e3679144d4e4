use Rattle.world_meaning.proofs.Stepping.{step_where_it_can}
use Rattle.world_meaning.proofs.laws.each_actor_that_can_step_has_one_step.Goals as goal

pub returns : goal.returns
returns c = step_where_it_can
