-- The descendants of a node in preorder, and the first of them with an id.
use Rattle.std.specs.Prelude.{ℕ, zero, suc, Bool, false, List, [], ◌∷◌, Option, Some, find, length, codes}
use Rattle.std.specs.List.{flat_map}
use Rattle.std.specs.Str.{bytes_eq}
use Rattle.chan_values.specs.Tree.{Tree, Leaf, Words}
use Rattle.node_tree.specs.declared.node.Node.{Node}
use Rattle.node_tree.specs.Nodes.{children_of}
use Rattle.node_tree.specs.Fields.{value_of}

-- a node and all below it, each before its own children, so many levels deep at most
abbrev pub preorder : ℕ → List Node → ℕ → List ℕ
preorder zero nodes n = []
preorder (suc most) nodes n = n ∷ flat_map (preorder most nodes) (children_of nodes n)

-- all below a node. There are no more levels than nodes
abbrev pub descendants : List Node → ℕ → List ℕ
descendants nodes n = flat_map (preorder (length nodes) nodes) (children_of nodes n)

abbrev pub is_text : List ℕ → Option Tree → Bool
is_text id (Some (Leaf (Words bytes))) = bytes_eq bytes id
is_text id _ = false

-- whether the field `id` of a node has this text, byte for byte
abbrev pub has_id : List Node → List ℕ → ℕ → Bool
has_id nodes id n = is_text id (value_of nodes n (codes "id"))

abbrev pub found : List Node → ℕ → List ℕ → Option ℕ
found nodes n id = find (has_id nodes id) (descendants nodes n)
