use Rattle.std.proofs.Common.{◌≡◌, length, ap, ◌∙◌, subst, arith}
use Rattle.frame_stack.specs.Frame.{slots_of, with_slot, without_operands}
use Rattle.frame_actions.proofs.Holding.{still_there}
use Rattle.frame_actions.proofs.Moving.{carries_store, slots_left, operand_there}
use Rattle.typed_values.specs.Taken.{Takes}
use Rattle.typed_values.proofs.Bound.{put_is, bound, unbound, path_stays}
use Rattle.typed_values.proofs.binding.bind.Goals as goal

pub place_behind-next-requires-clause-there : goal.place_behind-next-requires-clause-there
place_behind-next-requires-clause-there c = operand_there c.args.frames.now c.requires.operand

pub set_slot-was-requires : goal.set_slot-was-requires
set_slot-was-requires c =
    let e : length (slots_of c.take_typed.new.frames) ≡ length (slots_of c.args.frames.now) = ap (λ l. length (slots_of l)) c.take_typed.ensures.frames ∙ slots_left 1 c.args.frames.now in
    omega (arith, c.requires.slot)

pub go_to-requires : goal.go_to-requires
go_to-requires c =
    let a : length c.set_slot-was.new.self ≡ length c.take_typed.new.frames = ap length c.set_slot-was.ensures.set ∙ still_there (with_slot c.args.parameter.slot c.in-Some.v) c.take_typed.new.frames in
    let b : length c.take_typed.new.frames ≡ length c.args.frames.now = ap length c.take_typed.ensures.frames ∙ still_there (without_operands 1) c.args.frames.now in
    let d = operand_there c.args.frames.now c.requires.operand in
    omega arith

pub returns-in-Some-clause-does : goal.returns-in-Some-clause-does
returns-in-Some-clause-does c = λ f number line has.
    let takes = subst (λ r. Takes c.args.parameter.kind c.args.heap.now c.args.frames.now c.take_typed.new.heap c.take_typed.new.frames r) c.in-Some.is c.take_typed.ensures.takes in
    let e : length (slots_of c.take_typed.new.frames) ≡ length (slots_of c.args.frames.now) = ap (λ l. length (slots_of l)) c.take_typed.ensures.frames ∙ slots_left 1 c.args.frames.now in
    bound c.args.heap.now c.release_slot.new.heap c.args.frames.now c.go_to.new.frames f number c.args.parameter c.in-Some.v c.place_behind-next.result c.requires.operand c.place_behind-next.ensures has takes.0
    (
    carries_store c.args.heap.now c.take_typed.new.heap c.release_slot.new.heap c.args.frames.now c.take_typed.new.frames c.set_slot-was.new.self c.go_to.new.frames c.args.parameter.slot c.place_behind-next.result c.in-Some.v c.set_slot-was.result
    takes.1 (omega (arith, c.requires.slot)) c.set_slot-was.ensures.value c.set_slot-was.ensures.set c.release_slot.ensures.moves c.go_to.ensures
    )
    (
    put_is c.args.parameter.slot c.place_behind-next.result c.in-Some.v c.args.frames.now c.take_typed.new.frames c.set_slot-was.new.self c.go_to.new.frames c.take_typed.ensures.frames c.set_slot-was.ensures.set c.go_to.ensures
    )

pub returns-in-None-clause-does : goal.returns-in-None-clause-does
returns-in-None-clause-does c = λ f number line has.
    let takes = subst (λ r. Takes c.args.parameter.kind c.args.heap.now c.args.frames.now c.take_typed.new.heap c.take_typed.new.frames r) c.in-None.is c.take_typed.ensures.takes in
    (unbound c.args.heap.now c.args.frames.now f number c.args.parameter c.requires.operand has takes.0, takes.1, path_stays 1 c.args.frames.now c.take_typed.new.frames c.take_typed.ensures.frames)
