use Rattle.std.proofs.Common.{◌≡◌, ◌-◌, Bool, List}
use Rattle.grammar_rules.specs.declared.word.Word.{Word}
use Rattle.grammar_rules.specs.Reading.{Parser, trail, trail_from}
use Rattle.token_cursor.specs.Turns.{GapsBy, Tests, TurnsBy}
use Rattle.token_cursor.proofs.repeat.trail.Given as goal

abbrev pub invariant-loop-turn : goal.invariant-loop-turn
invariant-loop-turn g l =
    (gs is : Word → Bool) (p q : Parser (List _)) → Tests (goal.B-post g l.gaps) gs → Tests (goal.C-post g l.items) is → GapsBy _ (goal.S-post g l.gap) p → TurnsBy _ (goal.T-post g l.item) q
    → trail gs is p q l.fn.tokens ≡ trail_from gs is p q (l._turn-end - l._turn) l.found l.tokens
