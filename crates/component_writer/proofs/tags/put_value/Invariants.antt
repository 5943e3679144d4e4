use Rattle.std.proofs.Common.{◌≡◌, ◌++◌, length, map}
use Rattle.std.specs.List.{flat_map}
use Rattle.xml_pieces.specs.Written.{stretch}
use Rattle.component_writer.specs.Spelling.{stretch_of}
use Rattle.component_writer.proofs.tags.put_value.Given as goal

abbrev pub invariant-loop-value : goal.invariant-loop-value
invariant-loop-value l = l.out.items ++ flat_map stretch (map stretch_of l.value) ≡ l.fn.out.items ++ flat_map stretch (map stretch_of l.fn.value)

abbrev pub decreases-loop-value : goal.decreases-loop-value
decreases-loop-value l = length l.value
