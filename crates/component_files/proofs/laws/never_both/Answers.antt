use Rattle.component_files.proofs.Whole.{never_both}
use Rattle.component_files.proofs.laws.never_both.Goals as goal

pub returns : goal.returns
returns c = never_both
