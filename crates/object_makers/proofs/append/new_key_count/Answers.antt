use Rattle.std.proofs.Common.{◌≡◌, ℕ, ◌+◌, cond, arith}
use Rattle.object_makers.proofs.JoinLaws.{lacks_next, lacks_all, counts_one, counts_none}
use Rattle.object_makers.proofs.append.new_key_count.Goals.{then-lacks_key, else-lacks_key}
use Rattle.object_makers.proofs.append.new_key_count.Goals as goal

pub loop-at-preserved : goal.loop-at-preserved
loop-at-preserved c =
    let counted : c.if-lacks_key.count ≡ c.loop-at.count + cond {A = ℕ} c.lacks_key.result 1 0 = elim c.if-lacks_key.branch [
      | then-lacks_key w ↦ counts_one c.lacks_key.result c.loop-at.count c.if-lacks_key.count w.if-lacks_key.true w.count-is
      | else-lacks_key w ↦ counts_none c.lacks_key.result c.loop-at.count c.if-lacks_key.count w.if-lacks_key.false w.count-is
    ] in
    record {
      lacks = lacks_next c.args.heap.now c.args.pairs.now c.args.from.now c.loop-at.count c.loop-at.at c.lacks_key.result c.if-lacks_key.count counted c.loop-at.invariant.lacks c.lacks_key.ensures.lacks;
      ordered = λ z. c.lacks_key.ensures.ordered;
      within = elim c.if-lacks_key.branch [
        | then-lacks_key w ↦ (let e = w.count-is in let l = c.loop-at.invariant.within in omega arith)
        | else-lacks_key w ↦ (let e = w.count-is in let l = c.loop-at.invariant.within in omega arith)
      ];
    }

pub returns-clause-count : goal.returns-clause-count
returns-clause-count c = lacks_all c.args.heap.now c.args.pairs.now c.args.from.now c.loop-at.count c.loop-at.at (omega arith) c.loop-at.invariant.lacks
