use Rattle.copy_meaning.specs.Answers.{unfolded}
use Rattle.copy_meaning.specs.Forms.{form_in}
use Rattle.copy_meaning.proofs.Answering.{one_answer, unfolded_leaves}
use Rattle.copy_meaning.proofs.laws.one_answer.Goals as goal

pub returns-clause-answers : goal.returns-clause-answers
returns-clause-answers c = unfolded_leaves

pub returns-clause-only : goal.returns-clause-only
returns-clause-only c = λ store v answer a. one_answer (form_in store) 64 65536 v answer (unfolded store v) a (unfolded_leaves store v)
