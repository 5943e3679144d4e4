use Rattle.std.proofs.Common.{take}
use Rattle.field_plans.proofs.Plain.{own_plain}
use Rattle.field_plans.proofs.fields.own_fields.Goals as goal

pub returns-clause-openings : goal.returns-clause-openings
returns-clause-openings c = own_plain c.loop-element.fields (take c.loop-element.element-index c.args.elements.now) c.loop-element.invariant
