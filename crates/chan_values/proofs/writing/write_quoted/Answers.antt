use Rattle.std.proofs.Common.{[], ◌∷◌, ◌++◌}
use Rattle.chan_values.specs.ValueText.{doubled}
use Rattle.chan_values.proofs.Characters.{char_written}
use Rattle.chan_values.proofs.writing.write_quoted.Goals as goal

pub loop-c-preserved : goal.loop-c-preserved
loop-c-preserved c = char_written doubled (c.args.out.now ++ 34 ∷ []) _ _ c.loop-c.yielded c.in-Some.c c.loop-c.invariant c.in_ok-write_doubled.ensures
