use Rattle.std.proofs.Common.{◌≡◌, ◌≤◌}
use Rattle.std.specs.Io.KnownBytes.{Consumes}
use Rattle.channel_run.specs.Script.{unended_length}
use Rattle.channel_run.proofs.input.read_input.Given as goal

abbrev pub invariant-loop : goal.invariant-loop
invariant-loop g l = record {
  taken : Consumes (g.S.Source.left l.initial.input) (g.S.Source.left l.input) l.bytes;
  unended : l.unended ≡ unended_length l.bytes;
  short : l.unended ≤ 16777216;
  faults : g.S.Source.faults l.input ≡ g.S.Source.faults l.initial.input;
}
