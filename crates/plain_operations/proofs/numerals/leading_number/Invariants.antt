use Rattle.plain_operations.proofs.Digits.{Reads}
use Rattle.plain_operations.proofs.numerals.leading_number.Given as goal

abbrev pub invariant-loop-digit : goal.invariant-loop-digit
invariant-loop-digit l = Reads l.s l.digit-index l.number
