-- The nodes that a value names.
use Rattle.std.specs.Prelude.{ℕ, List, [], ◌∷◌, ◌++◌}
use Rattle.chan_values.specs.Tree.{Plain, Invalid, Boolean, Integer, LongInteger, Words, NodeNumber, PortNumber, Tree, Leaf, Branch, Trees, none, more}

abbrev pub nodes_in_plain : Plain → List ℕ
nodes_in_plain (NodeNumber n) = n ∷ []
nodes_in_plain _ = []

-- in order
abbrev mutual
  pub nodes_in : Tree → List ℕ
  nodes_in (Leaf p) = nodes_in_plain p
  nodes_in (Branch k ts) = nodes_in_all ts

  pub nodes_in_all : Trees → List ℕ
  nodes_in_all none = []
  nodes_in_all (more t ts) = nodes_in t ++ nodes_in_all ts
