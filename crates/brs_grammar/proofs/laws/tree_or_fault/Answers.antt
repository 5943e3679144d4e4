use Rattle.brs_grammar.proofs.Whole.{decided}
use Rattle.brs_grammar.proofs.laws.tree_or_fault.Goals as goal

pub returns : goal.returns
returns c = decided
