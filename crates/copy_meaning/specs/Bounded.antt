-- The tree of a value up to a depth, by recursion on that depth.
use Rattle.std.specs.Prelude.{ℕ, zero, suc, List, [], ◌∷◌, Option, Some, None, option_map}
use Rattle.chan_values.specs.Tree.{Tree, Leaf, Branch, Trees, none, more}
use Rattle.copy_meaning.specs.Unfolding.{Form, Single, Holds}

abbrev pub joined : Option Tree → Option Trees → Option Trees
joined (Some t) (Some ts) = Some (more t ts)
joined _ _ = None

-- the trees of all items, None where one has none
abbrev pub each : {A : Type 0} → (A → Option Tree) → List A → Option Trees
each one [] = Some none
each one (a ∷ items) = joined (one a) (each one items)

-- the tree of what holds nothing
abbrev pub closed : {A : Type 0} → Form A → Option Tree
closed (Single plain) = Some (Leaf plain)
closed (Holds kind items) = None

-- the tree of a value whose items have these trees
abbrev pub opened : {A : Type 0} → (A → Option Tree) → Form A → Option Tree
opened one (Single plain) = Some (Leaf plain)
opened one (Holds kind items) = option_map (Branch kind) (each one items)

-- the tree of a value, None where it is deeper than this
abbrev pub tree_within : {A : Type 0} → (A → Form A) → ℕ → A → Option Tree
tree_within form zero a = closed (form a)
tree_within form (suc bound) a = opened (tree_within form bound) (form a)
