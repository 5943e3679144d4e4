use Rattle.std.proofs.Common.{◌≡◌, true, false, arith}
use Rattle.std.proofs.lemmas.Grind.{common_steps}
use Rattle.std.specs.Option.{option_to_list}
use Rattle.std.proofs.lemmas.Result.{err_from_is_err_and}
use Rattle.grammar_rules.specs.Words.{next}
use Rattle.grammar_rules.specs.Reading.{trail}
use Rattle.token_cursor.proofs.Loops.{exits, trail_stops, gap_err, gap_stops, item_err, item_ok, trail_over}
use Rattle.token_cursor.proofs.repeat.trail.Goals as goal

pub loop-turn-init : goal.loop-turn-init
unfolding trail
loop-turn-init g c gs is p q tg ti sg si = grind (arith, common_steps)

pub returns-then-not-gaps : goal.returns-then-not-gaps
returns-then-not-gaps g c gs is p q tg ti sg si =
    let same = tg.gives _ _ c.gaps.ensures in
    let y : gs (next c.loop-turn.tokens) ≡ false = cc in
    trail_stops gs is p q _ _ c.loop-turn._turn _ _ c.loop-turn-test.true (c.loop-turn.invariant gs is p q tg ti sg si) y

pub returns-in_err-between : goal.returns-in_err-between
returns-in_err-between g c gs is p q tg ti sg si =
    let same = tg.gives _ _ c.gaps.ensures in
    let y : gs (next c.loop-turn.tokens) ≡ true = cc in
    let h = sg.reads _ _ _ c.in_err-between.ensures in
    let e = err_from_is_err_and c.from_residual.result c.from_residual.ensures.1 in
    rw (e.1, e.2)
    (exits (λ a. a) _ (p c.loop-turn.tokens) c.in_err-between.field-0.0 c.gap.new.arg2
    (gap_err gs is p q _ _ c.loop-turn._turn c.loop-turn.found c.loop-turn.tokens c.gap.new.arg2 c.loop-turn-test.true (c.loop-turn.invariant gs is p q tg ti sg si) y)
    h)

pub returns-then-not-items : goal.returns-then-not-items
returns-then-not-items g c gs is p q tg ti sg si =
    let same = tg.gives _ _ c.gaps.ensures in
    let y : gs (next c.loop-turn.tokens) ≡ true = cc in
    let h = sg.reads _ _ _ c.in_ok-between.ensures in
    let same2 = ti.gives _ _ c.items.ensures in
    let w : is (next c.gap.new.arg2) ≡ false = cc in
    rw c.in_ok-append.ensures
    (gap_stops gs is p q _ _ c.loop-turn._turn c.loop-turn.found c.loop-turn.tokens c.in_ok-between.between c.gap.new.arg2 c.loop-turn-test.true (c.loop-turn.invariant gs is p q tg ti sg si) y h w)

pub returns-in_err-next : goal.returns-in_err-next
returns-in_err-next g c gs is p q tg ti sg si =
    let same = tg.gives _ _ c.gaps.ensures in
    let y : gs (next c.loop-turn.tokens) ≡ true = cc in
    let h = sg.reads _ _ _ c.in_ok-between.ensures in
    let same2 = ti.gives _ _ c.items.ensures in
    let w : is (next c.gap.new.arg2) ≡ true = cc in
    let k = si.reads _ _ _ c.in_err-next.ensures in
    let e = err_from_is_err_and c.from_residual-in_err-next.result c.from_residual-in_err-next.ensures.1 in
    rw (e.1, e.2)
    (exits option_to_list _ (q c.gap.new.arg2) c.in_err-next.field-0.0 c.item.new.arg2
    (item_err gs is p q _ _ c.loop-turn._turn c.loop-turn.found c.loop-turn.tokens c.in_ok-between.between c.gap.new.arg2 c.item.new.arg2 c.loop-turn-test.true (c.loop-turn.invariant gs is p q tg ti sg si) y h w)
    k)

pub loop-turn-preserved : goal.loop-turn-preserved
loop-turn-preserved g c gs is p q tg ti sg si =
    let same = tg.gives _ _ c.gaps.ensures in
    let y : gs (next c.loop-turn.tokens) ≡ true = cc in
    let h = sg.reads _ _ _ c.in_ok-between.ensures in
    let same2 = ti.gives _ _ c.items.ensures in
    let w : is (next c.gap.new.arg2) ≡ true = cc in
    let k = si.reads _ _ _ c.in_ok-next.ensures in
    rw (c.in_ok-keep.ensures.kept, c.in_ok-append.ensures)
    (item_ok gs is p q _ _ c.loop-turn._turn c.loop-turn.found c.loop-turn.tokens c.in_ok-between.between (option_to_list c.in_ok-next.next) c.gap.new.arg2 c.item.new.arg2 c.loop-turn-test.true (c.loop-turn.invariant gs is p q tg ti sg si) y h w k)

pub returns : goal.returns
returns g c gs is p q tg ti sg si = trail_over gs is p q _ _ c.loop-turn._turn _ _ c.loop-turn-test.false (c.loop-turn.invariant gs is p q tg ti sg si)
