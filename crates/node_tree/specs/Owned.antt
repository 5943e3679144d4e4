-- Who owns which node: the rule that names only nodes of render or of one's own.
use Rattle.std.specs.Prelude.{◌≡◌, ◌⊎◌, ℕ, List, Some}
use Rattle.std.specs.List.{AllByRecursion}
use Rattle.node_tree.specs.declared.node.Node.{Node}
use Rattle.node_tree.specs.Nodes.{node_at, owner_of}
use Rattle.node_tree.specs.Reach.{kin, named_by}

-- a node of render, or of this actor
abbrev pub Of : ℕ → List Node → ℕ → Type 0
Of actor nodes n = (owner_of nodes n ≡ Some 0) ⊎ (owner_of nodes n ≡ Some actor)

-- the owner of a node changes only to render
abbrev pub OnlyToRender : List Node → List Node → Type 0
OnlyToRender before after = (n actor : ℕ) → owner_of before n ≡ Some actor → Of actor after n

-- a node has the owner of its parent and its children, and its fields name nodes of render or of its owner
pub record IsNodeOwned (nodes : List Node) (x : Node) : Type 0 where
  pub kin_of_one : AllByRecursion (λ n. owner_of nodes n ≡ Some x.owner) (kin x)
  pub fields : AllByRecursion (Of x.owner nodes) (named_by x.fields)

-- so each node
abbrev pub AreNodesOwned : List Node → Type 0
AreNodesOwned nodes = (n : ℕ) (x : Node) → node_at nodes n ≡ Some x → IsNodeOwned nodes x
