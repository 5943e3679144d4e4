use Rattle.std.proofs.Common.{◌≡◌, take}
use Rattle.chan_values.specs.Folded.{folded}
use Rattle.static_faults.specs.Table.{is_among}
use Rattle.static_faults.specs.Parts.{names}
use Rattle.static_faults.proofs.names.is_parameter.Given as goal

abbrev pub invariant-loop-x : goal.invariant-loop-x
invariant-loop-x l = l.found ≡ is_among (names (take l.x-index l.before)) (folded l.name)
