use Rattle.std.proofs.Common.{◌+◌, ◌≤◌, length}
use Rattle.channel_run.proofs.Lines.{Leads}
use Rattle.channel_run.proofs.script.read_lines.Given as goal

abbrev pub invariant-loop-rest : goal.invariant-loop-rest
invariant-loop-rest l = record {
  leads : Leads l.events l.rest l.bytes;
  counted : length l.events + length l.rest ≤ length l.bytes;
}

abbrev pub decreases-loop-rest : goal.decreases-loop-rest
decreases-loop-rest l = length l.rest
