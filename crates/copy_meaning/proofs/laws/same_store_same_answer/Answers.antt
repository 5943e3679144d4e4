use Rattle.copy_meaning.proofs.Standing.{answers_meaning}
use Rattle.copy_meaning.proofs.laws.same_store_same_answer.Goals as goal

pub returns : goal.returns
returns c = λ h name store outside v answer s b a. answers_meaning h name store outside 64 65536 v answer s b a
