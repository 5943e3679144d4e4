-- The focus, and the nodes that a key visits.
use Rattle.std.specs.Prelude.{◌≡◌, ℕ, suc, Bool, true, false, List, [], ◌==◌, Option, None, Some, slice_get, if◌then◌else◌}
use Rattle.std.specs.List.{IsDistinct}
use Rattle.std.specs.Bool.{nat_eq}
use Rattle.node_tree.specs.declared.node.Node.{Node}
use Rattle.node_tree.specs.Nodes.{parent_of}
use Rattle.node_tree.specs.Family.{ancestry}

-- the focus, once it was taken from a node if that has it
abbrev pub taken_from : Option ℕ → ℕ → Option ℕ
taken_from None node = None
taken_from (Some focused) node = if focused == node then None else Some focused

-- the focus, once it was given to a node or taken from it
abbrev pub after_set : Option ℕ → ℕ → Bool → Option ℕ
after_set focus node true = Some node
after_set focus node false = taken_from focus node

-- the focused node and its ancestors, upward
abbrev pub focus_chain : List Node → Option ℕ → List ℕ
focus_chain nodes None = []
focus_chain nodes (Some n) = ancestry nodes n

-- a list of nodes goes up from the focused one to one without a parent
pub record IsChain (nodes : List Node) (focus : Option ℕ) (chain : List ℕ) : Type 0 where
  pub begins : slice_get chain 0 ≡ focus
  pub goes_up : (at n : ℕ) → slice_get chain at ≡ Some n → slice_get chain (suc at) ≡ parent_of nodes n
  pub once : IsDistinct nat_eq chain
