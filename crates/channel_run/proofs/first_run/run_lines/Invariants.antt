use Rattle.std.proofs.Common.{◌≡◌, ◌≤◌, drop}
use Rattle.channel_run.specs.FirstLocals.{numbers_in}
use Rattle.channel_run.proofs.Progress.{Progress}
use Rattle.channel_run.proofs.first_run.run_lines.Given as goal

abbrev pub invariant-loop-line : goal.invariant-loop-line
invariant-loop-line g l =
    record {
      progress : Progress (g.O.Sink.held l.initial.out) (g.O.Sink.held l.out) l.steps l.left (numbers_in l.locals) l.lines (drop l.line-index l.lines);
      fewer : l.left ≤ l.steps;
      faults : g.O.Sink.faults l.out ≡ g.O.Sink.faults l.initial.out;
    }
