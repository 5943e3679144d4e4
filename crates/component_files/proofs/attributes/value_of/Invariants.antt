use Rattle.std.proofs.Common.{◌≡◌, length}
use Rattle.component_files.specs.Elements.{value_of}
use Rattle.component_files.proofs.attributes.value_of.Given as goal

abbrev pub invariant-loop-attributes : goal.invariant-loop-attributes
invariant-loop-attributes l = value_of l.attributes l.name ≡ value_of l.fn.attributes l.name

abbrev pub decreases-loop-attributes : goal.decreases-loop-attributes
decreases-loop-attributes l = length l.attributes
