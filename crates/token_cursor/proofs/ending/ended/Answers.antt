use Rattle.std.proofs.Common.{◌≡◌, true, false, arith}
use Rattle.std.proofs.lemmas.Grind.{common_steps}
use Rattle.std.specs.Option.{option_to_list}
use Rattle.std.proofs.lemmas.Result.{err_from_is_err_and}
use Rattle.grammar_rules.specs.Words.{next, same_word}
use Rattle.grammar_rules.specs.Reading.{ended}
use Rattle.token_cursor.specs.Endings.{ending_of}
use Rattle.token_cursor.proofs.Endings.{turn_err, turn_ok, stops_here, head_err, last_err, last_ok, other_err, other_ok, no_more, exits}
use Rattle.token_cursor.proofs.ending.ended.Goals as goal

pub loop-turn-init : goal.loop-turn-init
unfolding ended
loop-turn-init g c h p q r s th tp hq or ls = grind (arith, common_steps)

pub returns-in_err-item : goal.returns-in_err-item
returns-in_err-item g c h p q r s th tp hq or ls =
    let y : same_word c.args.turns (next c.loop-turn.tokens) ≡ true = cc in
    let k = tp.reads _ _ _ c.in_err-item.ensures in
    let e = err_from_is_err_and c.from_residual.result c.from_residual.ensures.1 in
    rw (e.1, e.2)
    (exits option_to_list ending_of _ (p c.loop-turn.tokens) c.in_err-item.field-0.0 c.turn.new.arg2
    (turn_err (same_word c.args.turns) h (same_word c.args.again) p q r s _ _ c.loop-turn._turn c.loop-turn.found c.loop-turn.tokens c.turn.new.arg2 c.loop-turn-test.true (c.loop-turn.invariant h p q r s th tp hq or ls) y)
    k)

pub loop-turn-preserved-then-same_word : goal.loop-turn-preserved-then-same_word
loop-turn-preserved-then-same_word g c h p q r s th tp hq or ls =
    let y : same_word c.args.turns (next c.loop-turn.tokens) ≡ true = cc in
    let k = tp.reads _ _ _ c.in_ok-item.ensures in
    rw c.in_ok-keep.ensures.kept
    (turn_ok (same_word c.args.turns) h (same_word c.args.again) p q r s _ _ c.loop-turn._turn c.loop-turn.found c.loop-turn.tokens (option_to_list c.in_ok-item.item) c.turn.new.arg2 c.loop-turn-test.true (c.loop-turn.invariant h p q r s th tp hq or ls) y k)

pub returns-then-not-heads : goal.returns-then-not-heads
returns-then-not-heads g c h p q r s th tp hq or ls =
    let y : same_word c.args.turns (next c.loop-turn.tokens) ≡ false = cc in
    let same = th.gives _ _ c.heads.ensures in
    let z : h (next c.loop-turn.tokens) ≡ false = cc in
    stops_here (same_word c.args.turns) h (same_word c.args.again) p q r s _ _ c.loop-turn._turn c.loop-turn.found c.loop-turn.tokens c.loop-turn-test.true (c.loop-turn.invariant h p q r s th tp hq or ls) y z

pub returns-in_err-begun : goal.returns-in_err-begun
returns-in_err-begun g c h p q r s th tp hq or ls =
    let y : same_word c.args.turns (next c.loop-turn.tokens) ≡ false = cc in
    let same = th.gives _ _ c.heads.ensures in
    let z : h (next c.loop-turn.tokens) ≡ true = cc in
    let k = hq.reads _ _ _ c.in_err-begun.ensures in
    let e = err_from_is_err_and c.from_residual-in_err-begun.result c.from_residual-in_err-begun.ensures.1 in
    rw (e.1, e.2)
    (exits (λ x. x) ending_of _ (q c.loop-turn.tokens) c.in_err-begun.field-0.0 c.head.new.arg2
    (head_err (same_word c.args.turns) h (same_word c.args.again) p q r s _ _ c.loop-turn._turn c.loop-turn.found c.loop-turn.tokens c.head.new.arg2 c.loop-turn-test.true (c.loop-turn.invariant h p q r s th tp hq or ls) y z)
    k)

pub returns-in_err-end : goal.returns-in_err-end
returns-in_err-end g c h p q r s th tp hq or ls =
    let y : same_word c.args.turns (next c.loop-turn.tokens) ≡ false = cc in
    let same = th.gives _ _ c.heads.ensures in
    let z : h (next c.loop-turn.tokens) ≡ true = cc in
    let d = hq.reads _ _ _ c.in_ok-begun.ensures in
    let w : same_word c.args.again (next c.head.new.arg2) ≡ false = cc in
    let k = ls.reads _ _ _ _ c.in_err-end.ensures in
    let e = err_from_is_err_and c.from_residual-in_err-end.result c.from_residual-in_err-end.ensures.1 in
    rw (e.1, e.2)
    (exits (λ x. x) ending_of _ (s c.in_ok-begun.begun c.head.new.arg2) c.in_err-end.field-0.0 c.last.new.arg2
    (last_err (same_word c.args.turns) h (same_word c.args.again) p q r s _ _ c.loop-turn._turn c.loop-turn.found c.loop-turn.tokens c.in_ok-begun.begun c.head.new.arg2 c.last.new.arg2 c.loop-turn-test.true (c.loop-turn.invariant h p q r s th tp hq or ls) y z d w)
    k)

pub returns-then-not-same_word : goal.returns-then-not-same_word
returns-then-not-same_word g c h p q r s th tp hq or ls =
    let y : same_word c.args.turns (next c.loop-turn.tokens) ≡ false = cc in
    let same = th.gives _ _ c.heads.ensures in
    let z : h (next c.loop-turn.tokens) ≡ true = cc in
    let d = hq.reads _ _ _ c.in_ok-begun.ensures in
    let w : same_word c.args.again (next c.head.new.arg2) ≡ false = cc in
    let k = ls.reads _ _ _ _ c.in_ok-end.ensures in
    last_ok (same_word c.args.turns) h (same_word c.args.again) p q r s _ _ c.loop-turn._turn c.loop-turn.found c.loop-turn.tokens c.in_ok-begun.begun c.in_ok-end.end c.head.new.arg2 c.last.new.arg2 c.loop-turn-test.true (c.loop-turn.invariant h p q r s th tp hq or ls) y z d w k

pub returns-in_err-more : goal.returns-in_err-more
returns-in_err-more g c h p q r s th tp hq or ls =
    let y : same_word c.args.turns (next c.loop-turn.tokens) ≡ false = cc in
    let same = th.gives _ _ c.heads.ensures in
    let z : h (next c.loop-turn.tokens) ≡ true = cc in
    let d = hq.reads _ _ _ c.in_ok-begun.ensures in
    let w : same_word c.args.again (next c.head.new.arg2) ≡ true = cc in
    let k = or.reads _ _ _ _ c.in_err-more.ensures in
    let e = err_from_is_err_and c.from_residual-in_err-more.result c.from_residual-in_err-more.ensures.1 in
    rw (e.1, e.2)
    (exits option_to_list ending_of _ (r c.in_ok-begun.begun c.head.new.arg2) c.in_err-more.field-0.0 c.other.new.arg2
    (other_err (same_word c.args.turns) h (same_word c.args.again) p q r s _ _ c.loop-turn._turn c.loop-turn.found c.loop-turn.tokens c.in_ok-begun.begun c.head.new.arg2 c.other.new.arg2 c.loop-turn-test.true (c.loop-turn.invariant h p q r s th tp hq or ls) y z d w)
    k)

pub loop-turn-preserved : goal.loop-turn-preserved
loop-turn-preserved g c h p q r s th tp hq or ls =
    let y : same_word c.args.turns (next c.loop-turn.tokens) ≡ false = cc in
    let same = th.gives _ _ c.heads.ensures in
    let z : h (next c.loop-turn.tokens) ≡ true = cc in
    let d = hq.reads _ _ _ c.in_ok-begun.ensures in
    let w : same_word c.args.again (next c.head.new.arg2) ≡ true = cc in
    let k = or.reads _ _ _ _ c.in_ok-more.ensures in
    rw c.in_ok-keep-2.ensures.kept
    (other_ok (same_word c.args.turns) h (same_word c.args.again) p q r s _ _ c.loop-turn._turn c.loop-turn.found c.loop-turn.tokens c.in_ok-begun.begun (option_to_list c.in_ok-more.more) c.head.new.arg2 c.other.new.arg2 c.loop-turn-test.true (c.loop-turn.invariant h p q r s th tp hq or ls) y z d w k)

pub returns : goal.returns
returns g c h p q r s th tp hq or ls = no_more (same_word c.args.turns) h (same_word c.args.again) p q r s _ _ c.loop-turn._turn c.loop-turn.found c.loop-turn.tokens c.loop-turn-test.false (c.loop-turn.invariant h p q r s th tp hq or ls)
