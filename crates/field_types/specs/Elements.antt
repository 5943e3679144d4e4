-- The child elements of a component file, as pure trees.
use Rattle.std.specs.Prelude.{ℕ, List, [], ◌∷◌}
use Rattle.field_types.specs.declared.plans.AttributeValue.{AttributeValue}
use Rattle.field_types.specs.declared.plans.ChildPlan.{ChildPlan}
use Rattle.field_types.specs.declared.plans.ChildPlan.TheOpen.{ChildPlan-F}
use Rattle.field_types.specs.declared.plans.ChildPlan.TheFolds as f

-- the place of an element's kind, what its attributes say, and the elements in it, in order
mutual
  pub data Element : Type 0 where
    element : (place : ℕ) (values : List AttributeValue) (children : Elements) → Element

  pub data Elements : Type 0 where
    none : Elements
    more : Element → Elements → Elements

abbrev pub elements : List Element → Elements
elements [] = none
elements (e ∷ es) = more e (elements es)

abbrev pub element_step : ChildPlan-F Element → Element
element_step x = element x.place x.values (elements x.children)

unfoldable pub element_of : ChildPlan → Element
element_of = f.fold-ChildPlan Element element_step
