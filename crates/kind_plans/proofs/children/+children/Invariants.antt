use Rattle.std.proofs.Common.{◌≡◌, ℕ, ◌<◌, List, map, take}
use Rattle.field_types.specs.Plans.{elements_of, AreElements}
use Rattle.folder_rules.specs.Names.{HasPlaces}
use Rattle.kind_plans.specs.Children.{child_of, planned_children}
use Rattle.kind_plans.specs.Places.{AreBelow}
use Rattle.kind_plans.proofs.children.+children.Given as goal

abbrev pub invariant-child_plans-loop-element : goal.invariant-child_plans-loop-element
invariant-child_plans-loop-element l = record {
  plans : (names : List (List ℕ)) → HasPlaces l.places names → map child_of l.plans ≡ planned_children l.table names (take l.element-index l.elements);
  below : (limit : ℕ) → 0 < limit → AreBelow limit l.places → AreElements limit (elements_of l.plans);
}
