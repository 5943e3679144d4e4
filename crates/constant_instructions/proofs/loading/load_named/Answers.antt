use Rattle.std.proofs.Common.{sym, ap, ◌∙◌}
use Rattle.frame_stack.specs.Frame.{changed}
use Rattle.frame_actions.specs.Actions.{pushed}
use Rattle.constant_instructions.specs.Reading.{function_number}
use Rattle.constant_instructions.proofs.Naming.{named_row}
use Rattle.constant_instructions.proofs.loading.load_named.Goals as goal

pub returns-in_ok-push_value-in-Some-number_named-clause-ok : goal.returns-in_ok-push_value-in-Some-number_named-clause-ok
returns-in_ok-push_value-in-Some-number_named-clause-ok c = λ heap line.
    named_row c.args.function.now c.args.entries.now c.args.built_ins.now c.args.functions c.args.slot c.in-Some.name.now heap c.args.frames.now c.push_value.new.frames c.place_behind-next.result c.in-Some-number_named.number line (sym c.in-Some.ensures.value) c.requires.unset
    (ap (function_number c.args.entries.now c.args.built_ins.now c.args.functions) (sym c.as_slice.ensures) ∙ sym c.in-Some-number_named.ensures) c.requires.there c.place_behind-next.ensures
    (c.in_ok-push_value-in-Some-number_named.ensures.ok ∙ ap (λ v. changed (pushed v c.place_behind-next.result) c.args.frames.now) c.plain.ensures)
