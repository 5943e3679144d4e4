use Rattle.frame_actions.proofs.Moving.{on_ok_then}
use Rattle.constant_instructions.proofs.Pushing.{text_row}
use Rattle.constant_instructions.proofs.constants.push_text.Goals as goal

pub returns-clause-ok : goal.returns-clause-ok
returns-clause-ok c =
    on_ok_then c.push_value.result _ _
    (λ e. text_row c.args.function.now c.args.n c.in_ok-text.text c.args.heap.now c.make_text.new.self c.args.frames.now c.push_value.new.frames c.place_behind-next.result c.in_ok-v.v c.requires.there c.place_behind-next.ensures c.in_ok-text.ensures c.in_ok-v.ensures.made e)
    c.push_value.ensures.ok
