use Rattle.std.proofs.Common.{◌≡◌, length}
use denote.Text.{Utf8}
use denote.Shadow.{shadow}
use Rattle.plain_operations.specs.Texts.{without_first_blanks}
use Rattle.plain_operations.proofs.trim.without_first_blanks.Given as goal

abbrev pub invariant-loop-rest : goal.invariant-loop-rest
invariant-loop-rest l = shadow (Utf8 l.s) × (without_first_blanks l.s ≡ without_first_blanks l.initial.s)

abbrev pub decreases-loop-rest : goal.decreases-loop-rest
decreases-loop-rest l = length l.s
