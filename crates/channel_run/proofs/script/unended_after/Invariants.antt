use Rattle.std.proofs.Common.{◌≡◌, ◌+◌, ◌≤◌, take}
use Rattle.channel_run.specs.Script.{unended_after}
use Rattle.channel_run.proofs.script.unended_after.Given as goal

abbrev pub invariant-loop-b : goal.invariant-loop-b
invariant-loop-b l = record {
  counted : l.unended ≡ unended_after l.before (take l.b-index l.piece);
  small : l.unended ≤ l.before + l.b-index;
}
