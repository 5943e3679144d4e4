use Rattle.std.proofs.Common.{◌≡◌, take}
use Rattle.static_faults.specs.Faults.{faults}
use Rattle.static_faults.specs.First.{first_by_place}
use Rattle.static_faults.proofs.file.first_of.Given as goal

abbrev pub invariant-loop-i : goal.invariant-loop-i
invariant-loop-i l = l.found ≡ first_by_place (faults (take l.i l.functions))
