use Rattle.std.proofs.Common.{◌≡◌}
use Rattle.std.proofs.Math.Utf8.{encodes}
use Rattle.chan_values.specs.Escape.{escaped}
use Rattle.chan_values.proofs.escape.escape_text.Given as goal

abbrev pub invariant-loop-c : goal.invariant-loop-c
invariant-loop-c l = l.text ≡ escaped (encodes l.yielded)
