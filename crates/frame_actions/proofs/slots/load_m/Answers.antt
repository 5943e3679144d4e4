use Rattle.frame_actions.proofs.Moving.{carries_push, on_ok_then}
use Rattle.frame_actions.proofs.slots.load_m.Goals as goal

pub returns-clause-carries : goal.returns-clause-carries
returns-clause-carries c =
    on_ok_then c.push_value.result _ _ (λ e. carries_push c.args.heap.now c.share_m-m.new.heap c.args.frames.now c.push_value.new.frames c.share_m-m.result c.args.place c.requires.there c.share_m-m.ensures.hands e) c.push_value.ensures.ok
