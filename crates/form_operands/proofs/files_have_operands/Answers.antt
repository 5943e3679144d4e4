use Rattle.form_operands.proofs.Files.{files_take}
use Rattle.form_operands.proofs.files_have_operands.Goals as goal

pub returns : goal.returns
returns c = files_take
