use Rattle.std.proofs.Common.{◌≡◌, ◌++◌, map, take}
use Rattle.node_tree.specs.Making.{opening_field}
use Rattle.node_tree.proofs.making.push_own.Given as goal

abbrev pub invariant-loop-field : goal.invariant-loop-field
invariant-loop-field l = l.fields ≡ l.initial.fields ++ map opening_field (take l.field-index l.field-items)
