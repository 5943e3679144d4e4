use Rattle.std.proofs.Common.{◌≡◌, ◌<◌, length, ap, ◌∙◌, arith}
use Rattle.heap_meaning.specs.Cells.{occurrence}
use Rattle.frame_actions.specs.Actions.{dropped, pushed}
use Rattle.frame_actions.proofs.Holding.{still_there}
use Rattle.frame_actions.proofs.Moving.{slot_there}
use Rattle.moving_instructions.proofs.Going.{carries_both}
use Rattle.loop_instructions.proofs.Carrying.{carries_pushed}
use Rattle.loop_instructions.proofs.changes.begin.Goals as goal

pub returns-clause-carries : goal.returns-clause-carries
returns-clause-carries c =
    let a : length c.drop_to.new.frames ≡ length c.args.frames.now = ap length c.drop_to.ensures.frames ∙ still_there (dropped c.args.taken c.args.place) c.args.frames.now in
    let b : length c.push_value.new.frames ≡ length c.drop_to.new.frames = ap length c.in_ok-push_value.ensures.ok ∙ still_there (pushed c.plain.result c.args.place) c.drop_to.new.frames in
    let there : 0 < length c.args.frames.now = slot_there c.args.slot c.args.frames.now c.requires.slot in
    let end = carries_pushed c.drop_to.new.heap c.drop_to.new.frames c.push_value.new.frames c.plain.result c.args.place (λ k. ap (occurrence k) c.plain.ensures) (omega arith) c.in_ok-push_value.ensures.ok in
    let step = carries_pushed c.drop_to.new.heap c.push_value.new.frames c.push_value-2.new.frames c.plain-2.result c.args.place (λ k. ap (occurrence k) c.plain-2.ensures) (omega arith) c.in_ok-push_value-2.ensures.ok in
    carries_both c.args.heap.now c.drop_to.new.heap c.set_number.new.heap c.args.frames.now c.drop_to.new.frames c.set_number.new.frames c.drop_to.ensures.carries
    (carries_both c.drop_to.new.heap c.drop_to.new.heap c.set_number.new.heap c.drop_to.new.frames c.push_value.new.frames c.set_number.new.frames end
    (carries_both c.drop_to.new.heap c.drop_to.new.heap c.set_number.new.heap c.push_value.new.frames c.push_value-2.new.frames c.set_number.new.frames step c.set_number.ensures.carries))
