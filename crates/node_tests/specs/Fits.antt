-- Child elements that a plan behind these may have, and how many nodes they make.
use Rattle.std.specs.Prelude.{◌≡◌, ℕ, List, length}
use Rattle.field_types.specs.declared.plans.ChildPlan.{ChildPlan}
use Rattle.field_types.specs.declared.plans.KindPlan.{KindPlan}
use Rattle.field_types.specs.Plans.{elements_of, elements_nodes, AreElements}

pub record Fits (plans : List KindPlan) (children : List ChildPlan) (nodes : ℕ) : Type 0 where
  pub elements : AreElements (length plans) (elements_of children)
  pub count : nodes ≡ elements_nodes plans (elements_of children)
