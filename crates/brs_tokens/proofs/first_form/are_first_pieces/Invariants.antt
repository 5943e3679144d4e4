use Rattle.std.proofs.Common.{◌≡◌, length}
use Rattle.brs_tokens.specs.FirstForm.{are_first_pieces}
use Rattle.brs_tokens.proofs.first_form.are_first_pieces.Given as goal

abbrev pub invariant-pieces : goal.invariant-pieces
invariant-pieces l = are_first_pieces 0 l.rest ≡ are_first_pieces 0 l.src

abbrev pub decreases-pieces : goal.decreases-pieces
decreases-pieces l = length l.rest
