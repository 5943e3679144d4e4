use Rattle.brs_meaning.proofs.Keeps.{step_keeps}
use Rattle.brs_meaning.proofs.laws.steps_keep_trees.Goals as goal

pub returns : goal.returns
returns c = step_keeps
