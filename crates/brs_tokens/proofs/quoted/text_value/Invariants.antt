use Rattle.std.proofs.Common.{length}
use Rattle.brs_tokens.proofs.TextsLemmas.{IsReading}
use Rattle.brs_tokens.proofs.quoted.text_value.Given as goal

abbrev pub invariant-quotes : goal.invariant-quotes
invariant-quotes l = IsReading l.text l.value l.rest

abbrev pub decreases-quotes : goal.decreases-quotes
decreases-quotes l = length l.rest
