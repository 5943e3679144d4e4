use Rattle.brs_grammar.proofs.Whole.{same_fault}
use Rattle.brs_grammar.proofs.laws.fault_by_prefix.Goals as goal

pub returns : goal.returns
returns c = same_fault
