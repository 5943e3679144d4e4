use Rattle.std.proofs.Common.{◌≡◌, ◌+◌, ◌-◌, take, drop, ap, ◌∙◌, arith}
use Rattle.frame_actions.proofs.Moving.{on_ok_then}
use Rattle.literal_instructions.proofs.Making.{pairs_row_done}
use Rattle.literal_instructions.proofs.literals.make_pairs.Goals as goal

pub returns-clause-ok : goal.returns-clause-ok
returns-clause-ok c =
    let key = c.args.key in
    let n = c.args.count in
    let texts : take (key + n - key) (drop key c.as_slice.result.now) ≡ take n (drop key c.args.function.now.texts) =
    ap (λ m. take m (drop key c.as_slice.result.now)) (omega arith) ∙ ap (λ l. take n (drop key l)) c.as_slice.ensures in
    on_ok_then c.replace_operands.result _ _
    (λ is.
    pairs_row_done c.args.function.now key n (take (key + n - key) (drop key c.as_slice.result.now)) c.args.heap.now c.pairs_of.new.heap c.replace_operands.new.heap c.args.frames.now c.replace_operands.new.frames c.place_behind-next.result c.last.result.now c.in_ok-pairs.pairs c.requires.there
    c.place_behind-next.ensures texts c.last.ensures c.in_ok-pairs.ensures.made c.replace_operands.ensures.carries is)
    c.replace_operands.ensures.ok
