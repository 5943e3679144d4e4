-- Parents and children: ancestors, and how a node gets another parent.
use Rattle.std.specs.Prelude.{◌≡◌, ℤ, pos, negsuc, ℕ, zero, suc, ◌+◌, ◌≤◌, ◌==◌, Bool, true, false, not, List, [], ◌∷◌, Option, Some, None, length, min, insert, slice_get, if◌then◌else◌}
use Rattle.std.specs.List.{list_any}
use Rattle.node_tree.specs.declared.node.Node.{Node}
use Rattle.node_tree.specs.declared.children.Place.{Place}
use Rattle.node_tree.specs.declared.children.Place.TheVariants.{At, Last}
use Rattle.node_tree.specs.Nodes.{parent_of, children_of, with_node, with_children, with_parent}

abbrev pub has : ℕ → List ℕ → Bool
has n ns = list_any (λ k. k == n) ns

-- ---- ancestors

-- the nodes on the way from a node upward, so many at most
abbrev pub upward : ℕ → List Node → Option ℕ → List ℕ
upward zero nodes o = []
upward (suc most) nodes None = []
upward (suc most) nodes (Some n) = n ∷ upward most nodes (parent_of nodes n)

-- a node and its ancestors, upward. No way upward is longer than there are nodes
abbrev pub ancestry : List Node → ℕ → List ℕ
ancestry nodes n = upward (length nodes) nodes (Some n)

-- ---- leaving a parent and standing below another

-- a list of children that a node leaves
abbrev pub without : ℕ → List ℕ → List ℕ
without c [] = []
without c (k ∷ ks) = if k == c then ks else (k ∷ without c ks)

abbrev pub left_parent : Option ℕ → ℕ → List Node → List Node
left_parent None c nodes = nodes
left_parent (Some p) c nodes = with_node (with_children (without c)) nodes p

-- the nodes once c has left the children of its parent
abbrev pub left : List Node → ℕ → List Node
left nodes c = left_parent (parent_of nodes c) c nodes

-- a place in a list of so many: the last, or one that is cut to the last
abbrev pub place_in : Place → ℕ → ℕ
place_in Last count = count
place_in (At at) count = min at count

-- a list of children in which c takes a place
abbrev pub with_child : Place → ℕ → List ℕ → List ℕ
with_child place c ks = insert ks (place_in place (length ks)) c

-- c stands among the children of n
abbrev pub standing : Place → List Node → ℕ → ℕ → List Node
standing place nodes n c = with_node (with_parent (Some n)) (with_node (with_children (with_child place c)) nodes n) c

-- a node may not stand below itself
abbrev pub can_stand : List Node → ℕ → ℕ → Bool
can_stand nodes n c = not (has c (ancestry nodes n))

-- c first leaves its parent, and then takes its place
abbrev pub moved : Place → List Node → ℕ → ℕ → List Node
moved place nodes n c = if can_stand nodes n c then standing place (left nodes c) n c else nodes

abbrev pub appended : List Node → ℕ → ℕ → List Node
appended nodes n c = moved Last nodes n c

-- a place below 0 is none
abbrev pub can_insert : List Node → ℕ → ℕ → ℤ → Bool
can_insert nodes n c (pos at) = can_stand nodes n c
can_insert nodes n c (negsuc at) = false

abbrev pub inserted : List Node → ℕ → ℕ → ℤ → List Node
inserted nodes n c (pos at) = moved (At at) nodes n c
inserted nodes n c (negsuc at) = nodes

abbrev pub is_child : List Node → ℕ → ℕ → Bool
is_child nodes n c = has c (children_of nodes n)

abbrev pub removed : List Node → ℕ → ℕ → List Node
removed nodes n c = if is_child nodes n c then with_node (with_parent None) (with_node (with_children (without c)) nodes n) c else nodes

-- ---- reads

abbrev pub child_at : List Node → ℕ → ℤ → Option ℕ
child_at nodes n (pos at) = slice_get (children_of nodes n) at
child_at nodes n (negsuc at) = None

-- ---- the rule

abbrev pub is : ℕ → Option ℕ → Bool
is p None = false
is p (Some q) = q == p

abbrev pub once_where : Bool → ℕ
once_where true = 1
once_where false = 0

-- how often a number stands in a list
abbrev pub times : ℕ → List ℕ → ℕ
times n [] = 0
times n (k ∷ ks) = once_where (k == n) + times n ks

-- a node stands once among the children of its parent, and among no others
pub record IsFamily (nodes : List Node) : Type 0 where
  pub once : (p n : ℕ) → times n (children_of nodes p) ≡ once_where (is p (parent_of nodes n))

-- a way leads up from a node to one without a parent
pub data Rooted (nodes : List Node) : ℕ → Type 0 where
  top : {n : ℕ} → parent_of nodes n ≡ None → Rooted nodes n
  below : {n p : ℕ} → parent_of nodes n ≡ Some p → Rooted nodes p → Rooted nodes n

-- no node is its own ancestor
abbrev pub IsTree : List Node → Type 0
IsTree nodes = (n p : ℕ) → parent_of nodes n ≡ Some p → has n (ancestry nodes p) ≡ false

-- what holds of the nodes at each moment
pub record IsSound (nodes : List Node) : Type 0 where
  pub family : IsFamily nodes
  pub rooted : (n : ℕ) → Rooted nodes n
  pub most : length nodes ≤ 1048576
