-- A search over links, by the nodes that it has found.
use Rattle.std.specs.Prelude.{◌≡◌, ℕ, ◌==◌, Bool, true, false, not, ◌||◌, List, [], ◌∷◌, ◌++◌, Option, Some, None}
use Rattle.std.specs.Bool.{nat_eq}
use Rattle.std.specs.List.{IsDistinct}
use Rattle.node_tree.specs.declared.node.Node.{Node}
use Rattle.node_tree.specs.Nodes.{node_at}
use Rattle.node_tree.specs.Family.{has}
use Rattle.node_tree.specs.Reach.{kin, named_by, Reaches}

-- where links from nodes of render lead to nodes of render alone, a search doesn't go to these
abbrev pub open_in : Bool → Option Node → Bool
open_in closed None = false
open_in closed (Some x) = not closed || not (x.owner == 0)

abbrev pub is_open : List Node → Bool → ℕ → Bool
is_open nodes closed n = open_in closed (node_at nodes n)

-- a search went to those of some nodes to which it goes, and to no others
pub record IsVisited (goes : ℕ → Bool) (before after some : List ℕ) : Type 0 where
  pub more : List ℕ
  pub is : after ≡ before ++ more
  pub each : (n : ℕ) → has n some ≡ true → goes n ≡ true → has n after ≡ true
  pub only : (n : ℕ) → has n more ≡ true → (has n some ≡ true) × (goes n ≡ true)
  pub once : IsDistinct nat_eq before → IsDistinct nat_eq after

abbrev pub linked_in : Option Node → List ℕ
linked_in None = []
linked_in (Some x) = kin x ++ named_by x.fields

-- what links lead to from a node
abbrev pub linked_from : List Node → ℕ → List ℕ
linked_from nodes n = linked_in (node_at nodes n)

-- a search from a node is over
pub record IsReach (nodes : List Node) (closed : Bool) (root : ℕ) (found : List ℕ) : Type 0 where
  pub start : is_open nodes closed root ≡ true → has root found ≡ true
  pub goes_on : (m n : ℕ) → has m found ≡ true → has n (linked_from nodes m) ≡ true → is_open nodes closed n ≡ true → has n found ≡ true
  pub only : (n : ℕ) → has n found ≡ true → Reaches nodes (root ∷ []) n
