use Rattle.brs_meaning.proofs.SameStep.{received_in, received_at_end}
use Rattle.brs_meaning.proofs.laws.answers_stand_where_they_were_asked_for.Goals as goal

pub returns-clause-operand : goal.returns-clause-operand
returns-clause-operand c = received_in

pub returns-clause-end : goal.returns-clause-end
returns-clause-end c = received_at_end
