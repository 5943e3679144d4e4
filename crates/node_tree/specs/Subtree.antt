-- What one making makes: a node with its descendants, before they have numbers.
use Rattle.std.specs.Prelude.{ℕ, suc, ◌+◌, List}
use Rattle.field_types.specs.declared.plans.AttributeValue.{AttributeValue}
use Rattle.field_types.specs.Elements.{Element, element, Elements, none as no_element, more as more_elements}

-- the place of the node's kind, the values that the attributes of its element give it, and its children, in order
mutual
  pub data Subtree : Type 0 where
    subtree : (place : ℕ) (values : List AttributeValue) (children : Subtrees) → Subtree

  pub data Subtrees : Type 0 where
    none : Subtrees
    more : Subtree → Subtrees → Subtrees

abbrev pub joined : Subtrees → Subtrees → Subtrees
joined none us = us
joined (more t ts) us = more t (joined ts us)

-- how many nodes there are
abbrev mutual
  pub size : Subtree → ℕ
  size (subtree place values children) = suc (all_sizes children)

  pub all_sizes : Subtrees → ℕ
  all_sizes none = 0
  all_sizes (more t ts) = size t + all_sizes ts

-- what an element makes, where each kind gives its nodes some children: these stand before those that the element has in it
abbrev mutual
  pub of_element : (ℕ → Subtrees) → Element → Subtree
  of_element gives (element place values children) = subtree place values (joined (gives place) (of_elements gives children))

  pub of_elements : (ℕ → Subtrees) → Elements → Subtrees
  of_elements gives no_element = none
  of_elements gives (more_elements e es) = more (of_element gives e) (of_elements gives es)
