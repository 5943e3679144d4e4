use Rattle.std.proofs.Common.{◌≡◌, ◌-◌, Bool, List}
use Rattle.brs_tokens.specs.Tok.{Tok}
use Rattle.first_form.specs.FirstReading.{Reading, many, many_from}
use Rattle.first_form.specs.FirstTurns.{Tests, TurnsBy}
use Rattle.first_form.proofs.repeat.many.Given as goal

abbrev pub invariant-loop-turn : goal.invariant-loop-turn
invariant-loop-turn g l =
    (test : List Tok → Bool) (p : Reading (List _)) → Tests (goal.B-post g l.begins) test → TurnsBy _ (goal.T-post g l.turn) p
    → many test p l.fn.tokens ≡ many_from test p (l._turn-end - l._turn) l.found l.tokens
