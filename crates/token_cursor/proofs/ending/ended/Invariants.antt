use Rattle.std.proofs.Common.{◌≡◌, ◌-◌, Bool, List}
use Rattle.grammar_rules.specs.declared.word.Word.{Word}
use Rattle.grammar_rules.specs.Words.{same_word}
use Rattle.grammar_rules.specs.Reading.{Parser, ended, ended_from}
use Rattle.token_cursor.specs.Endings.{HeadsBy, OthersBy, LastsBy}
use Rattle.token_cursor.specs.Turns.{Tests, TurnsBy}
use Rattle.token_cursor.proofs.ending.ended.Given as goal

abbrev pub invariant-loop-turn : goal.invariant-loop-turn
invariant-loop-turn g l =
    (h : Word → Bool) (p : Parser (List _)) (q : Parser _) (r : _ → Parser (List _)) (s : _ → Parser _) → Tests (goal.D-post g l.heads) h → TurnsBy _ (goal.T-post g l.turn) p → HeadsBy _ (goal.H-post g l.head) q → OthersBy _ _ (goal.O-post g l.other) r → LastsBy _ _ (goal.L-post g l.last) s
    → ended (same_word l.turns) h (same_word l.again) p q r s l.fn.tokens ≡ ended_from (same_word l.turns) h (same_word l.again) p q r s (l._turn-end - l._turn) l.found l.tokens
