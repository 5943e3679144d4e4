use Rattle.component_files.proofs.Whole.{one_file}
use Rattle.component_files.proofs.laws.one_file.Goals as goal

pub returns : goal.returns
returns c = one_file
