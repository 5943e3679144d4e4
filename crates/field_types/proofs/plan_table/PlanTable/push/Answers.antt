use Rattle.std.proofs.Common.{sym}
use Rattle.field_types.proofs.Tables.{table_after}
use Rattle.field_types.proofs.plan_table.PlanTable.push.Goals as goal

pub invariant_of-self : goal.invariant_of-self
invariant_of-self c = table_after _ _ _ _ _ (sym c.self.view_is) c.push.ensures.items c.self.invariant c.requires
