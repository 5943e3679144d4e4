use Rattle.moving_instructions.proofs.Going.{on_ok_both}
use Rattle.moving_instructions.proofs.Values.{load_m_row}
use Rattle.moving_instructions.proofs.locals.load_m.Goals as goal

pub returns-clause-ok : goal.returns-clause-ok
returns-clause-ok c =
    on_ok_both c.load_m.result _ _ _ (λ carries e. load_m_row c.args.heap.now c.load_m.new.heap c.args.frames.now c.load_m.new.frames c.place_behind-next.result c.requires.there c.place_behind-next.ensures carries e)
    c.load_m.ensures.carries c.load_m.ensures.loaded
