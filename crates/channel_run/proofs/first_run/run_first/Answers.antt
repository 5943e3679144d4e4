use Rattle.std.proofs.Common.{sym, subst, ◌∙◌, OnOk}
use Rattle.std.specs.Io.KnownBytes.{Appends}
use Rattle.channel_run.specs.Output.{AppendsPrefix}
use Rattle.channel_run.proofs.Moves.{prefix_whole, prefix_more, prefix_after, prefix_either, whole_after}
use Rattle.channel_run.proofs.FirstTexts.{ran, text_parts, text_whole, text_part}
use Rattle.channel_run.proofs.first_run.run_first.Goals as goal

pub returns-in_err-ended-clause-front : goal.returns-in_err-ended-clause-front
returns-in_err-ended-clause-front g c =
    let run = ran c.args.main.now c.args.script.now c.args.bound c.steps_asked-asked.result c.min.result c.as_slice.result.now c.built_events.result.now c.requires c.built_events.ensures c.steps_asked-asked.ensures c.min.ensures c.as_slice.ensures in
    subst (AppendsPrefix (g.O.Sink.held c.args.out.now) (g.O.Sink.held c.run_lines.new.out)) (sym (text_parts _ _ _ _ _ _ run)) (prefix_more _ _ _ _ c.in_err-ended.ensures.front)

pub returns-then-is_whole-clause-whole : goal.returns-then-is_whole-clause-whole
returns-then-is_whole-clause-whole g c =
    let run = ran c.args.main.now c.args.script.now c.args.bound c.steps_asked-asked.result c.min.result c.as_slice.result.now c.built_events.result.now c.requires c.built_events.ensures c.steps_asked-asked.ensures c.min.ensures c.as_slice.ensures in
    let text = text_whole _ _ _ _ _ _ c.in_ok-ended.ended c.end_reason.result run (sym c.is_whole.ensures ∙ c.if-is_whole.true) c.in_ok-ended.ensures.ended c.end_reason.ensures in
    subst (λ t. OnOk c.write_last_lines.result (Appends (g.O.Sink.held c.args.out.now) (g.O.Sink.held c.write_last_lines.new.out) t)) (sym text)
    (whole_after c.write_last_lines.result _ _ _ _ _ c.in_ok-ended.ensures.whole c.write_last_lines.ensures.whole)

pub returns-then-is_whole-clause-front : goal.returns-then-is_whole-clause-front
returns-then-is_whole-clause-front g c =
    let run = ran c.args.main.now c.args.script.now c.args.bound c.steps_asked-asked.result c.min.result c.as_slice.result.now c.built_events.result.now c.requires c.built_events.ensures c.steps_asked-asked.ensures c.min.ensures c.as_slice.ensures in
    let text = text_whole _ _ _ _ _ _ c.in_ok-ended.ended c.end_reason.result run (sym c.is_whole.ensures ∙ c.if-is_whole.true) c.in_ok-ended.ensures.ended c.end_reason.ensures in
    subst (AppendsPrefix (g.O.Sink.held c.args.out.now) (g.O.Sink.held c.write_last_lines.new.out)) (sym text)
    (prefix_after _ _ _ _ _ c.in_ok-ended.ensures.whole (prefix_either c.write_last_lines.result _ _ _ c.write_last_lines.ensures.whole c.write_last_lines.ensures.front))

pub returns-else-is_whole-clause-whole : goal.returns-else-is_whole-clause-whole
returns-else-is_whole-clause-whole g c =
    let run = ran c.args.main.now c.args.script.now c.args.bound c.steps_asked-asked.result c.min.result c.as_slice.result.now c.built_events.result.now c.requires c.built_events.ensures c.steps_asked-asked.ensures c.min.ensures c.as_slice.ensures in
    subst (Appends (g.O.Sink.held c.args.out.now) (g.O.Sink.held c.run_lines.new.out)) (sym (text_part _ _ _ _ _ _ run (sym c.is_whole.ensures ∙ c.if-is_whole.false))) c.in_ok-ended.ensures.whole

pub returns-else-is_whole-clause-front : goal.returns-else-is_whole-clause-front
returns-else-is_whole-clause-front g c =
    let run = ran c.args.main.now c.args.script.now c.args.bound c.steps_asked-asked.result c.min.result c.as_slice.result.now c.built_events.result.now c.requires c.built_events.ensures c.steps_asked-asked.ensures c.min.ensures c.as_slice.ensures in
    subst (AppendsPrefix (g.O.Sink.held c.args.out.now) (g.O.Sink.held c.run_lines.new.out)) (sym (text_part _ _ _ _ _ _ run (sym c.is_whole.ensures ∙ c.if-is_whole.false))) (prefix_whole _ _ _ c.in_ok-ended.ensures.whole)
