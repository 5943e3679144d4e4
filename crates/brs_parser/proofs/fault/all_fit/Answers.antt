use Rattle.brs_parser.proofs.Places.{all_fit}
use Rattle.brs_parser.proofs.fault.all_fit.Goals as goal

pub returns : goal.returns
returns c tokens spelled = all_fit tokens spelled c.tokens_are_spelled.ensures c.tokens_stand_in_order.ensures
