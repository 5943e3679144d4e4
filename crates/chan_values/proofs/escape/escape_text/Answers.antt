use Rattle.std.proofs.Common.{[]}
use Rattle.chan_values.specs.Escape.{escaped_byte}
use Rattle.chan_values.proofs.Characters.{char_written}
use Rattle.chan_values.proofs.escape.escape_text.Goals as goal

pub loop-c-preserved : goal.loop-c-preserved
loop-c-preserved c = char_written escaped_byte [] _ _ c.loop-c.yielded c.in-Some.c c.loop-c.invariant c.in_ok-push_escaped.ensures
