use Rattle.trace_report.specs.TraceText.{end_line}
use Rattle.channel_run.specs.FirstText.{first_report}
use Rattle.channel_run.proofs.Moves.{prefix_more, front_after}
use Rattle.channel_run.proofs.Progress.{on_err_any}
use Rattle.channel_run.proofs.first_run.write_last_lines.Goals as goal

pub returns-in_err-write_trace_line-clause-front : goal.returns-in_err-write_trace_line-clause-front
returns-in_err-write_trace_line-clause-front g c =
    on_err_any _ _ (prefix_more _ _ (end_line c.args.reason) first_report c.in_err-write_trace_line.ensures.front)

pub returns-clause-front : goal.returns-clause-front
returns-clause-front g c =
    front_after c.write_report_line.result _ _ _ (end_line c.args.reason) first_report c.in_ok-write_trace_line.ensures.whole c.write_report_line.ensures.front
