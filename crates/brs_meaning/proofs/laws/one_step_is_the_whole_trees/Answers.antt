use Rattle.brs_meaning.proofs.SameStep.{same_step}
use Rattle.brs_meaning.proofs.laws.one_step_is_the_whole_trees.Goals as goal

pub returns : goal.returns
returns c = same_step
