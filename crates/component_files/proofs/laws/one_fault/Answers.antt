use Rattle.component_files.proofs.Whole.{one_fault}
use Rattle.component_files.proofs.laws.one_fault.Goals as goal

pub returns : goal.returns
returns c = one_fault
