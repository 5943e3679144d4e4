use Rattle.std.proofs.Common.{take}
use Rattle.folder_rules.specs.Kinds.{all_kinds}
use Rattle.kind_plans.specs.Filling.{HasPlansOf}
use Rattle.kind_plans.specs.Plans.{components_at}
use Rattle.kind_plans.proofs.table.kind_plans.Given as goal

abbrev pub invariant-loop-at : goal.invariant-loop-at
invariant-loop-at l = HasPlansOf (all_kinds l.components) (components_at l.components (take l.at-index l.order)) l.places l.table
