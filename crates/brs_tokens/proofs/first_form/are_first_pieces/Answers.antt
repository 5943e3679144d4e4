use Rattle.std.proofs.Common.{sym, arith}
use Rattle.std.proofs.lemmas.Grind.{common_steps}
use Rattle.std.proofs.lemmas.List.{nil_from_length}
use Rattle.brs_tokens.proofs.FirstLemmas.{walk-none, walk-refused, walk-kept, walk-end}
use Rattle.brs_tokens.proofs.first_form.are_first_pieces.Goals as goal

pub returns-in_default : goal.returns-in_default
returns-in_default c = walk-none _ c.pieces.rest.now c.pieces.invariant (grind (arith, common_steps)) (grind (arith, common_steps))

pub returns-then-not-is_first_piece : goal.returns-then-not-is_first_piece
returns-then-not-is_first_piece c =
    let h = c.in-Some.ensures in
    walk-refused _ c.pieces.rest.now c.split_at.result.0.now c.byte_at.result c.in-Some.piece c.pieces.invariant (grind (arith, common_steps)) (sym h.piece) h.some h.within
    c.split_at.ensures.front c.byte_at.ensures (grind (arith, common_steps))

pub pieces-preserved : goal.pieces-preserved
pieces-preserved c =
    let h = c.in-Some.ensures in
    walk-kept _ c.pieces.rest.now c.split_at.result.0.now c.split_at.result.1.now c.byte_at.result c.in-Some.piece c.pieces.invariant (grind (arith, common_steps)) (sym h.piece) h.some h.within
    c.split_at.ensures.front c.split_at.ensures.back c.byte_at.ensures (grind (arith, common_steps))

pub returns : goal.returns
returns c = walk-end _ c.pieces.rest.now c.pieces.invariant (nil_from_length _ (grind (arith, common_steps)))
