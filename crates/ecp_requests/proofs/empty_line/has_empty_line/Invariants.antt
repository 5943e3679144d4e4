use Rattle.ecp_requests.proofs.EmptyLinesLemmas.{Scanned}
use Rattle.ecp_requests.proofs.empty_line.has_empty_line.Given as goal

abbrev pub invariant-loop-at : goal.invariant-loop-at
invariant-loop-at l = Scanned l.bytes l.at l.begun
