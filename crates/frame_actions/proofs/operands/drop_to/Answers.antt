use Rattle.std.proofs.Common.{◌≡◌, length, ap, ◌∙◌, arith}
use Rattle.frame_stack.specs.Frame.{changed, without_operands}
use Rattle.frame_actions.specs.Actions.{at_place}
use Rattle.frame_actions.proofs.Holding.{still_there, twice}
use Rattle.frame_actions.proofs.Moving.{carries_drop}
use Rattle.frame_actions.proofs.operands.drop_to.Goals as goal

pub go_to-requires : goal.go_to-requires
go_to-requires c =
    let e : length c.drop_operands.new.frames ≡ length c.args.frames.now = ap length c.drop_operands.ensures.frames ∙ still_there (without_operands c.args.n) c.args.frames.now in
    omega (arith, c.requires.there)

pub returns-clause-frames : goal.returns-clause-frames
returns-clause-frames c = c.go_to.ensures ∙ ap (changed (at_place c.args.place)) c.drop_operands.ensures.frames ∙ twice (without_operands c.args.n) (at_place c.args.place) c.args.frames.now

pub returns-clause-carries : goal.returns-clause-carries
returns-clause-carries c =
    carries_drop c.args.heap.now c.drop_operands.new.heap c.args.frames.now c.go_to.new.frames c.args.n c.args.place c.drop_operands.ensures.moves
    (c.go_to.ensures ∙ ap (changed (at_place c.args.place)) c.drop_operands.ensures.frames ∙ twice (without_operands c.args.n) (at_place c.args.place) c.args.frames.now)
