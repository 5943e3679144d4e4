use Rattle.std.proofs.Common.{◌≡◌, [], ◌∷◌, ◌++◌}
use Rattle.std.specs.List.{flat_map}
use Rattle.std.proofs.Math.Utf8.{encodes}
use Rattle.chan_values.specs.ValueText.{doubled}
use Rattle.chan_values.proofs.writing.write_quoted.Given as goal

abbrev pub invariant-loop-c : goal.invariant-loop-c
invariant-loop-c l = l.out ≡ (l.fn.out ++ 34 ∷ []) ++ flat_map doubled (encodes l.yielded)
