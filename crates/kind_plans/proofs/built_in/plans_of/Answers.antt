use Rattle.kind_plans.proofs.Filling.{built_in_base}
use Rattle.kind_plans.proofs.built_in.plans_of.Goals as goal

pub push_built_in-requires : goal.push_built_in-requires
push_built_in-requires c = built_in_base c.args.rows.now c.loop-row.row-index _ c.loop-row.table c.requires c.loop-row-test.true c.loop-row.invariant
