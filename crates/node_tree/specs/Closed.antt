-- Whether links from nodes of render lead to nodes of render alone.
use Rattle.std.specs.Prelude.{◌≡◌, ℕ, ◌==◌, Bool, true, false, not, ◌||◌, List, Option, Some, None, if◌then◌else◌}
use Rattle.std.specs.List.{AllByRecursion, list_all}
use Rattle.chan_values.specs.Tree.{Tree}
use Rattle.field_types.specs.NamedNodes.{nodes_in}
use Rattle.node_tree.specs.declared.node.Node.{Node}
use Rattle.node_tree.specs.Nodes.{node_at, owner_of}
use Rattle.node_tree.specs.Family.{IsSound}
use Rattle.node_tree.specs.Reach.{kin, named_by}

-- a link from a node of this owner may lead to a node of that owner: a node of render is linked with nodes of render alone
abbrev pub MayLead : ℕ → Option ℕ → Type 0
MayLead owner None = ⊥
MayLead owner (Some other) = owner ≡ 0 → other ≡ 0

pub record IsClosedAt (nodes : List Node) (x : Node) : Type 0 where
  pub kin_of : AllByRecursion (λ n. MayLead x.owner (owner_of nodes n)) (kin x)
  pub fields : AllByRecursion (λ n. MayLead x.owner (owner_of nodes n)) (named_by x.fields)

abbrev pub IsClosed : List Node → Type 0
IsClosed nodes = (n : ℕ) (x : Node) → node_at nodes n ≡ Some x → IsClosedAt nodes x

-- what holds of the nodes, and what is known of their links
pub record IsKept (nodes : List Node) (known : Bool) : Type 0 where
  pub sound : IsSound nodes
  pub closed : known ≡ true → IsClosed nodes

-- ---- the tests

abbrev pub may_lead : ℕ → Option Node → Bool
may_lead owner None = false
may_lead owner (Some x) = not (owner == 0) || x.owner == 0

-- is it known still, once a node of this owner names what a value names
abbrev pub stays_closed : List Node → Bool → ℕ → Tree → Bool
stays_closed nodes closed owner v = if closed then list_all (λ n. may_lead owner (node_at nodes n)) (nodes_in v) else false

-- both owners are render, or neither
abbrev pub are_alike : ℕ → ℕ → Bool
are_alike one other = if one == 0 then other == 0 else not (other == 0)
