use Rattle.component_files.proofs.Whole.{file_or_fault}
use Rattle.component_files.proofs.laws.file_or_fault.Goals as goal

pub returns : goal.returns
returns c = file_or_fault
