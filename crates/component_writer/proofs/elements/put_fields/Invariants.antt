use Rattle.std.proofs.Common.{◌≡◌, ◌++◌, length}
use Rattle.std.specs.List.{flat_map}
use Rattle.xml_pieces.specs.Written.{spelled}
use Rattle.component_writer.specs.Spelling.{field_pieces}
use Rattle.component_writer.proofs.elements.put_fields.Given as goal

abbrev pub invariant-loop-left : goal.invariant-loop-left
invariant-loop-left l = l.out.items ++ flat_map spelled (flat_map field_pieces l.left) ≡ l.fn.out.items ++ flat_map spelled (flat_map field_pieces l.fn.fields)

abbrev pub decreases-loop-left : goal.decreases-loop-left
decreases-loop-left l = length l.left
