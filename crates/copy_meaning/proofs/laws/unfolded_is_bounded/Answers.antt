use Rattle.std.proofs.Common.{refl, arith}
use Rattle.copy_meaning.specs.Answers.{Copy}
use Rattle.copy_meaning.specs.Forms.{form_in}
use Rattle.copy_meaning.proofs.Answering.{copied_bounded}
use Rattle.copy_meaning.proofs.laws.unfolded_is_bounded.Goals as goal

pub returns : goal.returns
returns c = λ store v t a. copied_bounded (form_in store) 64 65536 v (Copy t) t a refl (omega arith) (omega arith)
