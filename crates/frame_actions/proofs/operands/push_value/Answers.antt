use Rattle.std.proofs.Common.{◌≡◌, length, ap, ◌∙◌, arith}
use Rattle.frame_stack.specs.Operand.{Holds}
use Rattle.frame_stack.specs.Frame.{changed, with_operand}
use Rattle.frame_actions.specs.Actions.{at_place}
use Rattle.frame_actions.proofs.Holding.{still_there, twice}
use Rattle.frame_actions.proofs.operands.push_value.Goals as goal

pub go_to-requires : goal.go_to-requires
go_to-requires c =
    let e : length c.push.new.self ≡ length c.args.frames.now = ap length c.in_ok-push.ensures.ok ∙ still_there (with_operand (Holds c.args.v)) c.args.frames.now in
    omega (arith, c.requires)

pub returns-clause-ok : goal.returns-clause-ok
returns-clause-ok c = c.go_to.ensures ∙ ap (changed (at_place c.args.place)) c.in_ok-push.ensures.ok ∙ twice (with_operand (Holds c.args.v)) (at_place c.args.place) c.args.frames.now
