use Rattle.std.proofs.Common.{ap, ◌∙◌}
use Rattle.frame_stack.specs.Frame.{changed}
use Rattle.frame_actions.specs.Actions.{pushed}
use Rattle.frame_actions.proofs.Moving.{on_ok_then}
use Rattle.moving_instructions.proofs.Values.{plain_pushed}
use Rattle.moving_instructions.proofs.constants.push_plain.Goals as goal

pub returns-clause-ok : goal.returns-clause-ok
returns-clause-ok c =
    on_ok_then c.push_value.result _ _
    (λ e. plain_pushed c.args.frames.now c.push_value.new.frames c.args.plain c.place_behind-next.result c.place_behind-next.ensures (e ∙ ap (λ v. changed (pushed v c.place_behind-next.result) c.args.frames.now) c.plain.ensures))
    c.push_value.ensures.ok
