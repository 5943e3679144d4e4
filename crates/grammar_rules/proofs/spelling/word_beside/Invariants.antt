use Rattle.std.proofs.Common.{◌≡◌, length, map}
use Rattle.grammar_rules.specs.Words.{word_beside}
use Rattle.grammar_rules.proofs.spelling.word_beside.Given as goal

abbrev pub invariant-loop-rows : goal.invariant-loop-rows
invariant-loop-rows l =
    word_beside (map (λ row. (row.0.now, row.1)) l.rows) l.other l.spelling ≡ word_beside (map (λ row. (row.0.now, row.1)) l.initial.rows) l.other l.spelling

abbrev pub decreases-loop-rows : goal.decreases-loop-rows
decreases-loop-rows l = length l.rows
