use Rattle.brs_grammar.proofs.Whole.{one_fault}
use Rattle.brs_grammar.proofs.laws.one_fault.Goals as goal

pub returns : goal.returns
returns c = one_fault
