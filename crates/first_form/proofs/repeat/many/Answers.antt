use Rattle.std.proofs.lemmas.Grind.{common_steps}
use Rattle.std.proofs.lemmas.Result.{err_from_is_err_and}
use Rattle.std.proofs.Common.{arith, ◌≡◌, true, false}
use Rattle.first_form.specs.FirstReading.{many}
use Rattle.first_form.specs.FirstStop.{option_items}
use Rattle.first_form.proofs.Loops.{exits, stops_here, turn_none, turn_some, no_more}
use Rattle.first_form.proofs.repeat.many.Goals as goal

pub loop-turn-init : goal.loop-turn-init
unfolding many
loop-turn-init g c test p tests turns = grind (arith, common_steps)

pub returns-then-not-begins : goal.returns-then-not-begins
returns-then-not-begins g c test p tests turns =
    let same = tests.gives _ _ c.begins.ensures in
    let y : test c.loop-turn.tokens ≡ false = cc in
    stops_here test p _ _ c.loop-turn._turn _ _ c.loop-turn-test.true (c.loop-turn.invariant test p tests turns) y

pub returns-in_err-item : goal.returns-in_err-item
returns-in_err-item g c test p tests turns =
    let same = tests.gives _ _ c.begins.ensures in
    let y : test c.loop-turn.tokens ≡ true = cc in
    let h = turns.reads _ _ _ c.in_err-item.ensures in
    let e = err_from_is_err_and c.from_residual.result c.from_residual.ensures.1 in
    rw (e.1, e.2)
    (exits _ (p c.loop-turn.tokens) c.in_err-item.field-0.0 c.turn.new.arg2
    (turn_none test p _ _ c.loop-turn._turn c.loop-turn.found c.loop-turn.tokens c.loop-turn-test.true (c.loop-turn.invariant test p tests turns) y)
    h)

pub loop-turn-preserved : goal.loop-turn-preserved
loop-turn-preserved g c test p tests turns =
    let same = tests.gives _ _ c.begins.ensures in
    let y : test c.loop-turn.tokens ≡ true = cc in
    let h = turns.reads _ _ _ c.in_ok-item.ensures in
    rw c.in_ok-keep.ensures
    (turn_some test p _ _ c.loop-turn._turn c.loop-turn.found c.loop-turn.tokens (option_items c.in_ok-item.item) c.turn.new.arg2 c.loop-turn-test.true (c.loop-turn.invariant test p tests turns) y h)

pub returns : goal.returns
returns g c test p tests turns = no_more test p _ _ c.loop-turn._turn _ _ c.loop-turn-test.false (c.loop-turn.invariant test p tests turns)
