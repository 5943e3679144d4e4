use Rattle.std.proofs.Common.{◌≡◌, ◌++◌, length, map}
use Rattle.std.specs.List.{flat_map}
use Rattle.xml_pieces.specs.Written.{attribute}
use Rattle.component_writer.specs.Spelling.{written_attribute}
use Rattle.component_writer.proofs.tags.put_attributes.Given as goal

abbrev pub invariant-loop-all : goal.invariant-loop-all
invariant-loop-all l = l.out.items ++ flat_map attribute (map written_attribute l.all) ≡ l.fn.out.items ++ flat_map attribute (map written_attribute l.fn.all)

abbrev pub decreases-loop-all : goal.decreases-loop-all
decreases-loop-all l = length l.all
