use Rattle.outside.specs.Place.{ComeBefore}
use Rattle.outside.proofs.listing.place_of.Given as goal

abbrev pub invariant-loop-at : goal.invariant-loop-at
invariant-loop-at l = ComeBefore l.files l.path l.at
