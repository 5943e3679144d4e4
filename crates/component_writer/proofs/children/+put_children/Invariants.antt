use Rattle.std.proofs.Common.{◌≡◌, ◌++◌, length}
use Rattle.std.specs.List.{flat_map}
use Rattle.xml_pieces.specs.Written.{spelled}
use Rattle.component_writer.specs.Spelling.{children_pieces}
use Rattle.component_writer.proofs.children.+put_children.Given as goal

abbrev pub decreases-put_children : goal.decreases-put_children
decreases-put_children l = l.levels

abbrev pub invariant-loop-left : goal.invariant-loop-left
invariant-loop-left l = l.out.items ++ flat_map spelled (children_pieces l.levels l.left) ≡ l.fn.out.items ++ flat_map spelled (children_pieces l.fn.levels l.fn.children)

abbrev pub decreases-loop-left : goal.decreases-loop-left
decreases-loop-left l = length l.left
