-- The nodes that a value names as a list, and those of the message that is made of it.
use Rattle.std.proofs.Common.{◌≡◌, ℕ, Bool, List, [], ◌∷◌, ◌++◌, Option, Some, None, subst, refl, sym}
use Rattle.std.specs.Prelude.{unwrap_or}
use Rattle.std.specs.List.{AllByRecursion}
use Rattle.chan_values.specs.Tree as t
use Rattle.chan_values.specs.Tree.{Plain, Array, Keyed, Tree, Leaf, Branch, Trees, none, more, trees, values_of}
use Rattle.chan_values.specs.View.{tree_of}
use Rattle.field_types.specs.NamedNodes.{nodes_in_plain, nodes_in, nodes_in_all}
use Rattle.node_tree.proofs.Bounds.{all_append, all_left, all_right}
use Rattle.brs_grammar.specs.Form.{Text}
use Rattle.brs_meaning.specs.Request as r
use Rattle.brs_meaning.specs.Request.{Access}
use Rattle.brs_meaning.specs.Nodes.{Each, IfSome, LeafNames, TreeNames, TreesName, AccessNames}
use Rattle.world_meaning.specs.Portables.{plain_portable, list_of, pair_list, portable_of}
use Rattle.world_meaning.specs.Accesses.{nodes_of}

module _ (S : ℕ → Type 0) where
  -- ---- as a list

  leaf_list : (x : Plain) → LeafNames S x → AllByRecursion S (nodes_in_plain x)
  leaf_list t.Invalid h = tt
  leaf_list (t.Boolean b) h = tt
  leaf_list (t.Integer n) h = tt
  leaf_list (t.LongInteger n) h = tt
  leaf_list (t.Words bytes) h = tt
  leaf_list (t.NodeNumber n) h = (h, tt)
  leaf_list (t.PortNumber n) h = tt

  mutual
    pub tree_list : (x : Tree) → TreeNames S x → AllByRecursion S (nodes_in x)
    tree_list (Leaf plain) h = leaf_list plain h
    tree_list (Branch kind ts) h = trees_list ts h

    trees_list : (ts : Trees) → TreesName S ts → AllByRecursion S (nodes_in_all ts)
    trees_list none h = tt
    trees_list (more x xs) h = all_append S (nodes_in x) (nodes_in_all xs) (tree_list x h.0) (trees_list xs h.1)

  list_leaf : (x : Plain) → AllByRecursion S (nodes_in_plain x) → LeafNames S x
  list_leaf t.Invalid h = tt
  list_leaf (t.Boolean b) h = tt
  list_leaf (t.Integer n) h = tt
  list_leaf (t.LongInteger n) h = tt
  list_leaf (t.Words bytes) h = tt
  list_leaf (t.NodeNumber n) h = h.0
  list_leaf (t.PortNumber n) h = tt

  mutual
    pub list_tree : (x : Tree) → AllByRecursion S (nodes_in x) → TreeNames S x
    list_tree (Leaf plain) h = list_leaf plain h
    list_tree (Branch kind ts) h = list_trees ts h

    list_trees : (ts : Trees) → AllByRecursion S (nodes_in_all ts) → TreesName S ts
    list_trees none h = tt
    list_trees (more x xs) h = (list_tree x (all_left S (nodes_in x) (nodes_in_all xs) h), list_trees xs (all_right S (nodes_in x) (nodes_in_all xs) h))

  arguments_list : (xs : List Tree) → Each (TreeNames S) xs → AllByRecursion S (nodes_in_all (trees xs))
  arguments_list [] h = tt
  arguments_list (x ∷ xs) h = all_append S (nodes_in x) (nodes_in_all (trees xs)) (tree_list x h.0) (arguments_list xs h.1)

  list_arguments : (xs : List Tree) → AllByRecursion S (nodes_in_all (trees xs)) → Each (TreeNames S) xs
  list_arguments [] h = tt
  list_arguments (x ∷ xs) h = (list_tree x (all_left S (nodes_in x) (nodes_in_all (trees xs)) h), list_arguments xs (all_right S (nodes_in x) (nodes_in_all (trees xs)) h))

  -- ---- of an access

  pub access_list : (access : Access) → AccessNames S access → AllByRecursion S (nodes_of access)
  access_list (r.Make kind) h = tt
  access_list (r.Scene kind) h = tt
  access_list (r.Get n f) h = (h, tt)
  access_list (r.Set n f v) h = (h.0, tree_list v h.1)
  access_list (r.Has n f) h = (h, tt)
  access_list (r.Add n f kind always) h = (h, tt)
  access_list (r.ObserveBy n f function) h = (h, tt)
  access_list (r.ObserveAt n f port) h = (h, tt)
  access_list (r.Unobserve n f) h = (h, tt)
  access_list (r.Append n c) h = (h.0, (h.1, tt))
  access_list (r.Insert n c at) h = (h.0, (h.1, tt))
  access_list (r.Remove n c) h = (h.0, (h.1, tt))
  access_list (r.Create n kind) h = (h, tt)
  access_list (r.Child n at) h = (h, tt)
  access_list (r.Count n) h = (h, tt)
  access_list (r.Parent n) h = (h, tt)
  access_list (r.Find n id) h = (h, tt)
  access_list (r.Focus n on) h = (h, tt)
  access_list (r.HasFocus n) h = (h, tt)
  access_list (r.InChain n) h = (h, tt)
  access_list (r.Subtype n) h = (h, tt)
  access_list (r.CallFunc n name arguments) h = (h.0, arguments_list arguments h.1)

  pub list_access : (access : Access) → AllByRecursion S (nodes_of access) → AccessNames S access
  list_access (r.Make kind) h = tt
  list_access (r.Scene kind) h = tt
  list_access (r.Get n f) h = h.0
  list_access (r.Set n f v) h = (h.0, list_tree v h.1)
  list_access (r.Has n f) h = h.0
  list_access (r.Add n f kind always) h = h.0
  list_access (r.ObserveBy n f function) h = h.0
  list_access (r.ObserveAt n f port) h = h.0
  list_access (r.Unobserve n f) h = h.0
  list_access (r.Append n c) h = (h.0, h.1.0)
  list_access (r.Insert n c at) h = (h.0, h.1.0)
  list_access (r.Remove n c) h = (h.0, h.1.0)
  list_access (r.Create n kind) h = h.0
  list_access (r.Child n at) h = h.0
  list_access (r.Count n) h = h.0
  list_access (r.Parent n) h = h.0
  list_access (r.Find n id) h = h.0
  list_access (r.Focus n on) h = h.0
  list_access (r.HasFocus n) h = h.0
  list_access (r.InChain n) h = h.0
  list_access (r.Subtype n) h = h.0
  list_access (r.CallFunc n name arguments) h = (h.0, list_arguments arguments h.1)

  -- ---- as the value of a message

  plain_payload : (x : Plain) → LeafNames S x → TreeNames S (tree_of (plain_portable x))
  plain_payload t.Invalid h = tt
  plain_payload (t.Boolean b) h = tt
  plain_payload (t.Integer n) h = tt
  plain_payload (t.LongInteger n) h = tt
  plain_payload (t.Words bytes) h = tt
  plain_payload (t.NodeNumber n) h = h
  plain_payload (t.PortNumber n) h = tt

  items_payload : (ts : Trees) → TreesName S ts → TreesName S (trees (list_of ts))
  items_payload none h = tt
  items_payload (more x xs) h = (h.0, items_payload xs h.1)

  pairs_payload : (ks : List Text) (ts : Trees) → TreesName S ts → TreesName S (trees (values_of (pair_list ks ts)))
  pairs_payload [] none h = tt
  pairs_payload [] (more x xs) h = tt
  pairs_payload (k ∷ ks) none h = tt
  pairs_payload (k ∷ ks) (more x xs) h = (h.0, pairs_payload ks xs h.1)

  pub payload_names : (x : Tree) → TreeNames S x → TreeNames S (tree_of (portable_of x))
  payload_names (Leaf plain) h = plain_payload plain h
  payload_names (Branch Array ts) h = items_payload ts h
  payload_names (Branch (Keyed ks) ts) h = pairs_payload ks ts h
