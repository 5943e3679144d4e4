use Rattle.brs_grammar.proofs.Whole.{never_both}
use Rattle.brs_grammar.proofs.laws.never_both.Goals as goal

pub returns : goal.returns
returns c = never_both
