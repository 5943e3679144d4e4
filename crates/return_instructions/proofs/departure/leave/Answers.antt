use Rattle.std.proofs.Common.{◌≡◌, ◌∙◌, true, false, refl, sym}
use Rattle.moving_instructions.proofs.Going.{if_ok_then}
use Rattle.return_instructions.proofs.Departing.{handed_down, handed_out}
use Rattle.return_instructions.proofs.departure.leave.Goals as goal

pub returns-in_ok-land-clause-departs : goal.returns-in_ok-land-clause-departs
returns-in_ok-land-clause-departs c =
    handed_down c.args.heap.now c.release_call.new.heap c.land.new.heap c.args.frames.now c.release_call.new.frames c.land.new.frames c.args.v c.args.line c.head-head.result c.head-head.ensures c.release_call.ensures.moves c.release_call.ensures.frames
    (c.is_received.ensures.0 c.if-is_received.true) c.in_ok-land.ensures.lands c.in_ok-land.ensures.settles

pub returns-else-is_received-clause-departs : goal.returns-else-is_received-clause-departs
returns-else-is_received-clause-departs c =
    if_ok_then c.leave_actor.result _ _
    (λ left out.
    handed_out c.args.heap.now c.release_call.new.heap c.leave_actor.new.heap c.args.frames.now c.release_call.new.frames c.args.v c.args.line c.head-head.result _ left c.requires c.head-head.ensures c.release_call.ensures.moves c.release_call.ensures.frames
    (λ both. let e : true ≡ false = sym (c.is_received.ensures.1 both) ∙ c.if-is_received.false in absurd cc) refl out c.leave_actor.ensures.moves)
    c.leave_actor.ensures.left
