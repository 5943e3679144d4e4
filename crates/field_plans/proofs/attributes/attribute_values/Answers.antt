use Rattle.std.proofs.Common.{take}
use Rattle.field_plans.proofs.Plain.{values_plain}
use Rattle.field_plans.proofs.attributes.attribute_values.Goals as goal

pub returns-clause-nodes : goal.returns-clause-nodes
returns-clause-nodes c = values_plain c.loop-attribute.values c.args.table.now c.args.kind.now (take c.loop-attribute.attribute-index c.args.attributes.now) c.loop-attribute.invariant
