-- What a walk has still before it, the next one last in its list.
use Rattle.std.specs.Prelude.{ℕ, ◌+◌, ◌<◌, List, [], ◌∷◌, ◌++◌, Some, map, reverse, length}
use Rattle.std.specs.List.{AllByRecursion}
use Rattle.field_types.specs.declared.plans.KindPlan.{KindPlan}
use Rattle.field_types.specs.Elements.{element_of}
use Rattle.node_tree.specs.declared.node.Node.{Node}
use Rattle.node_tree.specs.declared.search.Pending.{Pending}
use Rattle.node_tree.specs.declared.make.PendingElement.{PendingElement}
use Rattle.node_tree.specs.Nodes.{changed, with_children}
use Rattle.node_tree.specs.Subtree.{Subtree, Subtrees, none, more, of_element}
use Rattle.node_tree.specs.Making.{children_given, numbered}

-- ---- a search

abbrev pub pending_at : ℕ → ℕ → Pending
pending_at levels n = record { node = n; levels = levels }

-- ---- a making

-- nodes that are still to be made, and the place of their parent among the nodes of the making
pub record Work : Type 0 where
  pub tree : Subtree
  pub parent : ℕ

abbrev pub works : ℕ → Subtrees → List Work
works parent none = []
works parent (more t ts) = record { tree = t; parent = parent } ∷ works parent ts

-- the children that a kind gives its nodes
abbrev pub gives : List KindPlan → ℕ → Subtrees
gives plans place = children_given (length plans) plans (Some place)

abbrev pub work_of : List KindPlan → PendingElement → Work
work_of plans e = record { tree = of_element (gives plans) (element_of e.element.now); parent = e.parent }

abbrev pub to_make : List KindPlan → List PendingElement → List Work
to_make plans pending = map (work_of plans) (reverse pending)

-- the nodes with those of a subtree behind them, whose topmost one is the last child of its parent
abbrev pub added : List KindPlan → ℕ → ℕ → List Node → Work → List Node
added plans owner first nodes w = changed (with_children (λ ks. ks ++ (first + length nodes) ∷ [])) nodes w.parent ++ numbered plans owner (Some (first + w.parent)) (first + length nodes) w.tree

-- the nodes once all is made
abbrev pub finished : List KindPlan → ℕ → ℕ → List Node → List Work → List Node
finished plans owner first nodes [] = nodes
finished plans owner first nodes (w ∷ ws) = finished plans owner first (added plans owner first nodes w) ws

-- each parent is there
abbrev pub HaveParents : List Node → List Work → Type 0
HaveParents nodes ws = AllByRecursion (λ w. w.parent < length nodes) ws
