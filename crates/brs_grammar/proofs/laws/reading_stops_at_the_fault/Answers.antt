use Rattle.brs_grammar.proofs.Whole.{file_fault}
use Rattle.brs_grammar.proofs.laws.reading_stops_at_the_fault.Goals as goal

pub returns : goal.returns
returns c = file_fault
