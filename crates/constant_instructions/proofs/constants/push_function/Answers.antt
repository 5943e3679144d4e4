use Rattle.std.proofs.Common.{◌+◌, refl, ap, ◌∙◌}
use Rattle.frame_stack.specs.Frame.{changed}
use Rattle.frame_actions.specs.Actions.{pushed}
use Rattle.frame_actions.proofs.Moving.{on_ok_then}
use Rattle.constant_instructions.proofs.Pushing.{function_row}
use Rattle.constant_instructions.proofs.constants.push_function.Goals as goal

pub returns-clause-ok : goal.returns-clause-ok
returns-clause-ok c =
    on_ok_then c.push_value.result _ _
    (λ e heap.
    function_row c.args.function.now c.args.named c.args.n (c.args.named + (c.args.function.now.first + c.args.n)) heap c.args.frames.now c.push_value.new.frames c.place_behind-next.result c.requires.there c.place_behind-next.ensures refl
    (e ∙ ap (λ v. changed (pushed v c.place_behind-next.result) c.args.frames.now) c.plain.ensures))
    c.push_value.ensures.ok
