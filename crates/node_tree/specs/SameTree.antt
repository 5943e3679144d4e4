-- Whether two values are the same, kind and content throughout.
use Rattle.std.specs.Prelude.{ℕ, ◌==◌, Bool, true, false, not, ◌&&◌, List, [], ◌∷◌, if◌then◌else◌}
use Rattle.std.specs.Ordering.{int_eq}
use Rattle.std.specs.Str.{bytes_eq}
use Rattle.chan_values.specs.Tree.{Plain, Invalid, Boolean, Integer, LongInteger, Words, NodeNumber, PortNumber, Kind, Array, Keyed, Tree, Leaf, Branch, Trees, none, more}

abbrev pub same_plain : Plain → Plain → Bool
same_plain Invalid Invalid = true
same_plain (Boolean a) (Boolean b) = if a then b else not b
same_plain (Integer a) (Integer b) = int_eq a b
same_plain (LongInteger a) (LongInteger b) = int_eq a b
same_plain (Words a) (Words b) = bytes_eq a b
same_plain (NodeNumber a) (NodeNumber b) = a == b
same_plain (PortNumber a) (PortNumber b) = a == b
same_plain _ _ = false

abbrev pub same_keys : List (List ℕ) → List (List ℕ) → Bool
same_keys [] [] = true
same_keys (k ∷ ks) (l ∷ ls) = bytes_eq k l && same_keys ks ls
same_keys _ _ = false

abbrev pub same_kind : Kind → Kind → Bool
same_kind Array Array = true
same_kind (Keyed ks) (Keyed ls) = same_keys ks ls
same_kind _ _ = false

abbrev mutual
  pub same_tree : Tree → Tree → Bool
  same_tree (Leaf p) (Leaf q) = same_plain p q
  same_tree (Branch k ts) (Branch l us) = same_kind k l && same_trees ts us
  same_tree _ _ = false

  pub same_trees : Trees → Trees → Bool
  same_trees none none = true
  same_trees (more t ts) (more u us) = same_tree t u && same_trees ts us
  same_trees _ _ = false
