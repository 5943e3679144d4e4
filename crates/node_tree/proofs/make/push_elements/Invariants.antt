use Rattle.std.proofs.Common.{◌≡◌, List, ◌++◌, map}
use Rattle.std.specs.Prelude.{reverse}
use Rattle.field_types.specs.declared.plans.KindPlan.{KindPlan}
use Rattle.node_tree.specs.Pending.{to_make}
use Rattle.node_tree.proofs.Works.{element_work}
use Rattle.node_tree.proofs.make.push_elements.Given as goal

abbrev pub invariant-loop-element : goal.invariant-loop-element
invariant-loop-element l = (plans : List KindPlan) → to_make plans l.pending.items ≡ map (element_work plans l.parent) (reverse (map (λ e. e.now) l.yielded)) ++ to_make plans l.initial.pending.items
