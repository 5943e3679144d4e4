-- Which lists of plans are tables: what each plan may name, and how many nodes it makes.
use Rattle.std.specs.Prelude.{◌≡◌, ℕ, ◌+◌, ◌-◌, ◌<◌, List, [], ◌∷◌, Option, Some, None, map, length, min, take, slice_get, codes}
use Rattle.std.specs.List.{AllByRecursion}
use Rattle.chan_values.specs.View.{tree_of}
use Rattle.field_types.specs.NamedNodes.{nodes_in}
use Rattle.field_types.specs.Elements.{Element, element, Elements, none, more, elements, element_of}
use Rattle.field_types.specs.declared.plans.AttributeValue.{AttributeValue}
use Rattle.field_types.specs.declared.plans.FieldPlan.{FieldPlan}
use Rattle.field_types.specs.declared.plans.ChildPlan.{ChildPlan}
use Rattle.field_types.specs.declared.plans.KindPlan.{KindPlan}

-- the most nodes that there may be, and one more
abbrev pub too_many : ℕ
too_many = 1048577

abbrev pub elements_of : List ChildPlan → Elements
elements_of children = elements (map element_of children)

-- how many nodes a making of a kind makes, 0 for a kind that isn't there
abbrev pub made_by : Option KindPlan → ℕ
made_by None = 0
made_by (Some p) = p.nodes

-- an element makes what its kind makes, and the elements in it
abbrev mutual
  pub element_nodes : List KindPlan → Element → ℕ
  element_nodes plans (element place values children) = made_by (slice_get plans place) + elements_nodes plans children

  pub elements_nodes : List KindPlan → Elements → ℕ
  elements_nodes plans none = 0
  elements_nodes plans (more e es) = element_nodes plans e + elements_nodes plans es

-- the node itself, with the nodes below it that its base makes
abbrev pub base_nodes : List KindPlan → Option ℕ → ℕ
base_nodes plans None = 1
base_nodes plans (Some base) = made_by (slice_get plans base)

-- no attribute names a node
abbrev pub NameNoNode : List AttributeValue → Type 0
NameNoNode values = AllByRecursion (λ v. nodes_in (tree_of v.value) ≡ []) values

-- each element has a kind whose plan stands below a place, and its attributes name no node
abbrev mutual
  pub IsElement : ℕ → Element → Type 0
  IsElement below (element place values children) = (place < below) × NameNoNode values × AreElements below children

  pub AreElements : ℕ → Elements → Type 0
  AreElements below none = Unit {0}
  AreElements below (more e es) = IsElement below e × AreElements below es

-- the kind Node stands first and has no base; each other kind has one, whose plan stands below it
abbrev pub IsBase : ℕ → List ℕ → Option ℕ → Type 0
IsBase at kind None = (at ≡ 0) × (kind ≡ codes "Node")
IsBase at kind (Some base) = base < at

-- a plan may stand behind these
pub record IsNext (plans : List KindPlan) (p : KindPlan) : Type 0 where
  pub base : IsBase (length plans) p.kind p.base
  pub openings : AllByRecursion (λ f. nodes_in (tree_of f.opening) ≡ []) p.fields
  pub elements : AreElements (length plans) (elements_of p.children)
  pub nodes : p.nodes ≡ min too_many (base_nodes plans p.base + elements_nodes plans (elements_of p.children))

-- each plan may stand behind those before it
pub record IsPlanTable (plans : List KindPlan) : Type 0 where
  pub each : (at : ℕ) (p : KindPlan) → slice_get plans at ≡ Some p → IsNext (take at plans) p
