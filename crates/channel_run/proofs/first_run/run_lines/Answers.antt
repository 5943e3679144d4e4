use Rattle.std.proofs.Common.{◌∙◌, refl, arith}
use Rattle.channel_run.proofs.Progress.{progress_at, progress_front, progress_more, progress_end, progress_ended_front, on_err_any}
use Rattle.channel_run.proofs.first_run.run_lines.Goals as goal

pub returns-in_err-run_line-clause-front : goal.returns-in_err-run_line-clause-front
returns-in_err-run_line-clause-front g c =
    let at = progress_at _ _ _ _ _ _ _ c.line-item.result c.loop-line.invariant.progress (omega arith) c.line-item.is in
    on_err_any _ _ (progress_front _ _ _ _ _ _ _ _ _ at (omega (arith, c.line_steps-needed.ensures)) c.in_err-run_line.ensures.front)

pub loop-line-preserved : goal.loop-line-preserved
loop-line-preserved g c =
    let at = progress_at _ _ _ _ _ _ _ c.line-item.result c.loop-line.invariant.progress (omega arith) c.line-item.is in
    record {
      progress = progress_more _ _ _ _ _ _ _ _ _ _ _ at (omega (arith, c.line_steps-needed.ensures)) c.in_ok-run_line.ensures.whole (omega (arith, c.line_steps-needed.ensures)) c.in_ok-run_line.ensures.numbers;
      fewer = omega arith;
      faults = c.in_ok-run_line.ensures.cause ∙ c.loop-line.invariant.faults;
    }

pub returns-in_err-write_trace_line-clause-front : goal.returns-in_err-write_trace_line-clause-front
returns-in_err-write_trace_line-clause-front g c =
    let all = progress_end _ _ _ _ _ _ _ c.loop-line.invariant.progress (omega arith) in
    on_err_any _ _ (progress_ended_front _ _ _ _ _ _ _ _ all (omega arith) refl c.in_err-write_trace_line.ensures.front)
