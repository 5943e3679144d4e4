use Rattle.std.proofs.Common.{◌≡◌, length}
use denote.Text.{Utf8}
use denote.Shadow.{shadow}
use Rattle.plain_operations.specs.Texts.{without_end_blanks}
use Rattle.plain_operations.proofs.trim.without_end_blanks.Given as goal

abbrev pub invariant-loop-front : goal.invariant-loop-front
invariant-loop-front l = shadow (Utf8 l.s) × (without_end_blanks l.s ≡ without_end_blanks l.initial.s)

abbrev pub decreases-loop-front : goal.decreases-loop-front
decreases-loop-front l = length l.s
