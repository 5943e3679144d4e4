use Rattle.std.proofs.Common.{List, ℕ, take}
use Rattle.std.specs.Prelude.{reverse}
use Rattle.code_lowering.specs.Lowered.{Begins, ParametersOf}
use Rattle.code_lowering.proofs.function.parameters.Given as goal

abbrev pub invariant-loop-i : goal.invariant-loop-i
invariant-loop-i l = (names : List (List ℕ)) → Begins (List ℕ) l.tables.slots names → ParametersOf names l.count (take l.i (reverse l.all)) l.parameters
