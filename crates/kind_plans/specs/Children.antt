-- The child elements of a component: what the plan of its kind says, and what the file says.
use Rattle.std.specs.Prelude.{ℕ, List, [], ◌∷◌, map}
use Rattle.std.specs.List.{flat_map}
use Rattle.chan_values.specs.Folded.{folded}
use Rattle.component_files.specs.declared.element.ChildElement.{ChildElement, ChildElement-F}
use Rattle.component_files.specs.declared.element.ChildElement.TheFolds as f
use Rattle.field_types.specs.Elements.{Element, element, Elements, none, more, element_of}
use Rattle.field_types.specs.declared.plans.ChildPlan.{ChildPlan}
use Rattle.folder_rules.specs.Kinds.{Kind}
use Rattle.field_plans.specs.Attributes.{Given, given_by, given_of}
use Rattle.kind_plans.specs.Places.{place_among}

-- the place of the kind of an element, what its attributes give, and the elements in it, in order
mutual
  pub data PlannedChild : Type 0 where
    planned : (place : ℕ) (values : List Given) (children : PlannedChildren) → PlannedChild

  pub data PlannedChildren : Type 0 where
    no_more : PlannedChildren
    and_then : PlannedChild → PlannedChildren → PlannedChildren

abbrev pub in_order : List PlannedChild → PlannedChildren
in_order [] = no_more
in_order (c ∷ cs) = and_then c (in_order cs)

-- ---- what a plan says

abbrev mutual
  pub shown : Element → PlannedChild
  shown (element place values children) = planned place (map given_of values) (all_shown children)

  pub all_shown : Elements → PlannedChildren
  all_shown none = no_more
  all_shown (more e es) = and_then (shown e) (all_shown es)

abbrev pub child_of : ChildPlan → PlannedChild
child_of c = shown (element_of c)

-- ---- what a file says

module _ (kinds : List Kind) (names : List (List ℕ)) where
  abbrev pub child_step : ChildElement-F PlannedChild → PlannedChild
  child_step x = planned (place_among names (folded x.kind)) (flat_map (given_by kinds (folded x.kind)) x.attributes) (in_order x.children)

  -- an element of a file, where the kinds have plans at the places of these names
  unfoldable pub planned_child : ChildElement → PlannedChild
  planned_child = f.fold-ChildElement PlannedChild child_step

  abbrev pub planned_children : List ChildElement → List PlannedChild
  planned_children children = map planned_child children
