use Rattle.brs_parser.proofs.Places.{column_fits}
use Rattle.brs_parser.proofs.fault.end_place.Goals as goal

pub place_behind-requires-clause-column : goal.place_behind-requires-clause-column
place_behind-requires-clause-column c = column_fits _ _ _ c.all_fit.ensures c.requires.spelled c.in-Some.ensures.token
