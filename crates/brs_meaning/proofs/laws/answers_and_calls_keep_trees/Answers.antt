use Rattle.brs_meaning.proofs.Keeps.{replies_keep, puts_keep}
use Rattle.brs_meaning.proofs.laws.answers_and_calls_keep_trees.Goals as goal

pub returns-clause-answers : goal.returns-clause-answers
returns-clause-answers c = replies_keep

pub returns-clause-calls : goal.returns-clause-calls
returns-clause-calls c = puts_keep
