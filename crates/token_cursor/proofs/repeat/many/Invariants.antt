use Rattle.std.proofs.Common.{◌≡◌, ◌-◌, Bool, List}
use Rattle.grammar_rules.specs.declared.word.Word.{Word}
use Rattle.grammar_rules.specs.Reading.{Parser, many, many_from}
use Rattle.token_cursor.specs.Turns.{Tests, TurnsBy}
use Rattle.token_cursor.proofs.repeat.many.Given as goal

abbrev pub invariant-loop-turn : goal.invariant-loop-turn
invariant-loop-turn g l =
    (test : Word → Bool) (p : Parser (List _)) → Tests (goal.B-post g l.begins) test → TurnsBy _ (goal.T-post g l.turn) p
    → many test p l.fn.tokens ≡ many_from test p (l._turn-end - l._turn) l.found l.tokens
