use Rattle.std.proofs.lemmas.Grind.{common_steps}
use Rattle.std.proofs.Common.{arith, ◌≡◌, true, false}
use Rattle.grammar_rules.specs.Words.{next}
use Rattle.grammar_rules.specs.Reading.{many}
use Rattle.std.specs.Option.{option_to_list}
use Rattle.std.proofs.lemmas.Result.{err_from_is_err_and}
use Rattle.token_cursor.proofs.Loops.{exits, stops_here, turn_err, turn_ok, no_more}
use Rattle.token_cursor.proofs.repeat.many.Goals as goal

pub loop-turn-init : goal.loop-turn-init
unfolding many
loop-turn-init g c test p tests turns = grind (arith, common_steps)

pub returns-then-not-begins : goal.returns-then-not-begins
returns-then-not-begins g c test p tests turns =
    let same = tests.gives _ _ c.begins.ensures in
    let y : test (next c.loop-turn.tokens) ≡ false = cc in
    stops_here test p _ _ c.loop-turn._turn _ _ c.loop-turn-test.true (c.loop-turn.invariant test p tests turns) y

pub returns-in_err-item : goal.returns-in_err-item
returns-in_err-item g c test p tests turns =
    let same = tests.gives _ _ c.begins.ensures in
    let y : test (next c.loop-turn.tokens) ≡ true = cc in
    let h = turns.reads _ _ _ c.in_err-item.ensures in
    let e = err_from_is_err_and c.from_residual.result c.from_residual.ensures.1 in
    rw (e.1, e.2)
    (exits option_to_list _ (p c.loop-turn.tokens) c.in_err-item.field-0.0 c.turn.new.arg2
    (turn_err test p _ _ c.loop-turn._turn c.loop-turn.found c.loop-turn.tokens c.turn.new.arg2 c.loop-turn-test.true (c.loop-turn.invariant test p tests turns) y)
    h)

pub loop-turn-preserved : goal.loop-turn-preserved
loop-turn-preserved g c test p tests turns =
    let same = tests.gives _ _ c.begins.ensures in
    let y : test (next c.loop-turn.tokens) ≡ true = cc in
    let h = turns.reads _ _ _ c.in_ok-item.ensures in
    rw c.in_ok-keep.ensures.kept
    (turn_ok test p _ _ c.loop-turn._turn c.loop-turn.found c.loop-turn.tokens (option_to_list c.in_ok-item.item) c.turn.new.arg2 c.loop-turn-test.true (c.loop-turn.invariant test p tests turns) y h)

pub returns : goal.returns
returns g c test p tests turns = no_more test p _ _ c.loop-turn._turn _ _ c.loop-turn-test.false (c.loop-turn.invariant test p tests turns)
