use Rattle.brs_grammar.proofs.Whole.{file_ok, file_all}
use Rattle.brs_grammar.proofs.laws.reading_gives_the_tree.Goals as goal

pub returns-clause-right : goal.returns-clause-right
returns-clause-right c = file_ok

pub returns-clause-all : goal.returns-clause-all
returns-clause-all c = file_all
