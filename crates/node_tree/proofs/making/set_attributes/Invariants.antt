use Rattle.std.proofs.Common.{◌≡◌, drop}
use Rattle.node_tree.specs.Making.{with_attributes}
use Rattle.node_tree.proofs.making.set_attributes.Given as goal

abbrev pub invariant-loop-attribute : goal.invariant-loop-attribute
invariant-loop-attribute l = with_attributes (drop l.attribute-index l.attributes) l.fields ≡ with_attributes l.attributes l.initial.fields
