use Rattle.node_tree.proofs.Attributes.{attribute_next, attributes_over}
use Rattle.node_tree.proofs.making.set_attributes.Goals as goal

pub loop-attribute-preserved : goal.loop-attribute-preserved
loop-attribute-preserved c = attribute_next c.args.attributes.now c.loop-attribute.attribute-index c.attribute-item.result c.loop-attribute.fields _ _ c.loop-attribute-test.true c.attribute-item.is c.in_ok-set_attribute.ensures c.loop-attribute.invariant

pub returns : goal.returns
returns c = attributes_over c.args.attributes.now c.loop-attribute.attribute-index c.loop-attribute.fields _ c.loop-attribute-test.false c.loop-attribute.invariant
