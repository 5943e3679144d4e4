use Rattle.std.proofs.Common.{◌≡◌, map, take}
use Rattle.kind_plans.specs.Plans.{plan_of, row_plan}
use Rattle.kind_plans.proofs.built_in.plans_of.Given as goal

abbrev pub invariant-loop-row : goal.invariant-loop-row
invariant-loop-row l = map plan_of l.table ≡ map row_plan (take l.row-index l.rows)
