use Rattle.std.proofs.Common.{◌≡◌, length, ap, ◌∙◌, arith}
use Rattle.frame_stack.specs.Frame.{slots_of, with_slot, without_operands}
use Rattle.frame_actions.proofs.Holding.{still_there}
use Rattle.frame_actions.proofs.Moving.{stored_is, carries_store, slots_left, operand_there}
use Rattle.frame_actions.proofs.slots.store.Goals as goal

pub set_slot-was-requires : goal.set_slot-was-requires
set_slot-was-requires c =
    let e : length (slots_of c.take_value-v.new.frames) ≡ length (slots_of c.args.frames.now) = ap (λ l. length (slots_of l)) c.take_value-v.ensures.frames ∙ slots_left 1 c.args.frames.now in
    omega (arith, c.requires.slot)

pub go_to-requires : goal.go_to-requires
go_to-requires c =
    let a : length c.set_slot-was.new.self ≡ length c.take_value-v.new.frames = ap length c.set_slot-was.ensures.set ∙ still_there (with_slot c.args.slot c.take_value-v.result) c.take_value-v.new.frames in
    let b : length c.take_value-v.new.frames ≡ length c.args.frames.now = ap length c.take_value-v.ensures.frames ∙ still_there (without_operands 1) c.args.frames.now in
    let d = operand_there c.args.frames.now c.requires.operand in
    omega arith

pub returns-clause-frames : goal.returns-clause-frames
returns-clause-frames c =
    stored_is c.args.slot c.args.place c.take_value-v.result c.args.frames.now c.take_value-v.new.frames c.set_slot-was.new.self c.go_to.new.frames c.take_value-v.ensures.value c.take_value-v.ensures.frames c.set_slot-was.ensures.set c.go_to.ensures

pub returns-clause-carries : goal.returns-clause-carries
returns-clause-carries c =
    let e : length (slots_of c.take_value-v.new.frames) ≡ length (slots_of c.args.frames.now) = ap (λ l. length (slots_of l)) c.take_value-v.ensures.frames ∙ slots_left 1 c.args.frames.now in
    carries_store c.args.heap.now c.take_value-v.new.heap c.release_slot.new.heap c.args.frames.now c.take_value-v.new.frames c.set_slot-was.new.self c.go_to.new.frames c.args.slot c.args.place c.take_value-v.result c.set_slot-was.result
    c.take_value-v.ensures.hands (omega (arith, c.requires.slot)) c.set_slot-was.ensures.value c.set_slot-was.ensures.set c.release_slot.ensures.moves c.go_to.ensures
