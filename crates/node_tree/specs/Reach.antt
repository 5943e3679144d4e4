-- Which nodes are linked, what nodes reach, and nodes that are given to render.
use Rattle.std.specs.Prelude.{◌≡◌, ℕ, zero, suc, ◌==◌, Bool, true, false, ◌||◌, ◌&&◌, List, [], ◌∷◌, Option, Some, None, if◌then◌else◌, length}
use Rattle.std.specs.List.{flat_map}
use Rattle.field_types.specs.NamedNodes.{nodes_in}
use Rattle.node_tree.specs.declared.field.Field.{Field}
use Rattle.node_tree.specs.declared.node.Node.{Node}
use Rattle.node_tree.specs.Nodes.{node_at}
use Rattle.node_tree.specs.Family.{has}

-- ---- links

abbrev pub parent_and : Option ℕ → List ℕ → List ℕ
parent_and None children = children
parent_and (Some p) children = p ∷ children

-- the parent of a node, if it has one, and its children
abbrev pub kin : Node → List ℕ
kin x = parent_and x.parent x.children

abbrev pub kin_in : Option Node → List ℕ
kin_in None = []
kin_in (Some x) = kin x

-- the nodes that the values of fields name
abbrev pub named_by : List Field → List ℕ
named_by fields = flat_map (λ f. nodes_in f.value) fields

-- a link leads from a node to another: between parent and child in both directions, and to a node that the value of a field names
abbrev pub leads : Option Node → Option Node → ℕ → ℕ → Bool
leads None o m n = false
leads (Some x) o m n = (has n (kin x) || has m (kin_in o)) || has n (named_by x.fields)

abbrev pub links : List Node → ℕ → ℕ → Bool
links nodes m n = leads (node_at nodes m) (node_at nodes n) m n

-- ---- reach

-- what some nodes reach: these nodes, and what a link leads to from a node that they reach
pub data Reaches (nodes : List Node) (roots : List ℕ) : ℕ → Type 0 where
  root : {n : ℕ} → has n roots ≡ true → Reaches nodes roots n
  link : {m n : ℕ} → Reaches nodes roots m → links nodes m n ≡ true → Reaches nodes roots n

-- is there a way from one node to another over links, all of whose inner nodes are numbered up to here
abbrev pub ways : List Node → ℕ → ℕ → ℕ → Bool
ways nodes zero m n = (m == n) || links nodes m n
ways nodes (suc k) m n = ways nodes k m n || (ways nodes k m (suc k) && ways nodes k (suc k) n)

-- whether some nodes reach another
abbrev pub reached : List Node → List ℕ → ℕ → Bool
reached nodes [] n = false
reached nodes (r ∷ roots) n = ways nodes (length nodes) r n || reached nodes roots n

-- ---- gifts

-- items changed where their numbers pass, the first one numbered so
abbrev pub changed_where : {A : Type 0} → (ℕ → Bool) → (A → A) → ℕ → List A → List A
changed_where p f n [] = []
changed_where p f n (x ∷ xs) = (if p n then f x else x) ∷ changed_where p f (suc n) xs

abbrev pub render_owned : Node → Node
render_owned x = record x { owner = 0 }

-- the nodes, once some of them were given to render: these and all that they reach are render's, and no other node changes
abbrev pub given : List Node → List ℕ → List Node
given nodes roots = changed_where (reached nodes roots) render_owned 1 nodes
