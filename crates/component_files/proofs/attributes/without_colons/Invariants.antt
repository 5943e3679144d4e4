use Rattle.std.proofs.Common.{◌≡◌, ◌++◌, length}
use Rattle.component_files.specs.Elements as spec
use Rattle.component_files.proofs.attributes.without_colons.Given as goal

abbrev pub invariant-loop-attributes : goal.invariant-loop-attributes
invariant-loop-attributes l = l.found ++ spec.without_colons l.attributes ≡ spec.without_colons l.fn.attributes

abbrev pub decreases-loop-attributes : goal.decreases-loop-attributes
decreases-loop-attributes l = length l.attributes
