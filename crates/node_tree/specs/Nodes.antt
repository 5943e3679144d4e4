-- The nodes of a run, numbered from 1 in the order of making, and what each has.
use Rattle.std.specs.Prelude.{ℕ, zero, suc, ◌≤◌, Bool, List, [], ◌∷◌, Option, Some, None, length, slice_get, option_map, if◌then◌else◌}
use Rattle.node_tree.specs.declared.field.Field.{Field}
use Rattle.node_tree.specs.declared.node.Node.{Node}

abbrev pub node_at : List Node → ℕ → Option Node
node_at nodes zero = None
node_at nodes (suc place) = slice_get nodes place

pub record IsNode (nodes : List Node) (n : ℕ) : Type 0 where
  pub from : 1 ≤ n
  pub to : n ≤ length nodes

-- ---- what a node has; for a number that is no node's, nothing

abbrev pub kind_of : List Node → ℕ → Option (List ℕ)
kind_of nodes n = option_map (λ x. x.kind) (node_at nodes n)

abbrev pub owner_of : List Node → ℕ → Option ℕ
owner_of nodes n = option_map (λ x. x.owner) (node_at nodes n)

abbrev pub parent_in : Option Node → Option ℕ
parent_in None = None
parent_in (Some x) = x.parent

abbrev pub parent_of : List Node → ℕ → Option ℕ
parent_of nodes n = parent_in (node_at nodes n)

abbrev pub children_in : Option Node → List ℕ
children_in None = []
children_in (Some x) = x.children

abbrev pub children_of : List Node → ℕ → List ℕ
children_of nodes n = children_in (node_at nodes n)

abbrev pub fields_in : Option Node → List Field
fields_in None = []
fields_in (Some x) = x.fields

-- the fields of a node, those of its kind in the order of the kind's table, and then those that were added, in the order of adding
abbrev pub fields_of : List Node → ℕ → List Field
fields_of nodes n = fields_in (node_at nodes n)

-- ---- a change of one node

-- the item at a place, changed
abbrev pub changed : {A : Type 0} → (A → A) → List A → ℕ → List A
changed f [] at = []
changed f (x ∷ xs) zero = f x ∷ xs
changed f (x ∷ xs) (suc at) = x ∷ changed f xs at

-- the first item that passes, changed
abbrev pub change_first : {A : Type 0} → (A → Bool) → (A → A) → List A → List A
change_first p f [] = []
change_first p f (x ∷ xs) = if p x then f x ∷ xs else (x ∷ change_first p f xs)

abbrev pub with_node : (Node → Node) → List Node → ℕ → List Node
with_node f nodes zero = nodes
with_node f nodes (suc place) = changed f nodes place

abbrev pub with_fields : (List Field → List Field) → Node → Node
with_fields f x = record x { fields = f x.fields }

abbrev pub with_children : (List ℕ → List ℕ) → Node → Node
with_children f x = record x { children = f x.children }

abbrev pub with_parent : Option ℕ → Node → Node
with_parent p x = record x { parent = p }
