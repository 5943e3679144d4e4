-- A value is got back from its tree.
use Rattle.std.proofs.Common.{◌≡◌, ℕ, List, [], ◌∷◌, refl, sym, ap, ◌∙◌}
use Rattle.chan_values.specs.declared.portable.Portable.{Portable}
use Rattle.chan_values.specs.declared.portable.Portable.TheVariants as p
use Rattle.chan_values.specs.Tree.{Tree, Invalid, Boolean, Integer, LongInteger, Words, NodeNumber, PortNumber, Array, Keyed, Leaf, Branch, Trees, none, more, trees, TreePair, keys_of, values_of}
use Rattle.chan_values.specs.View.{tree_of}

abbrev list_of : Trees → List Tree
list_of none = []
list_of (more t ts) = t ∷ list_of ts

list_back : (ts : List Tree) → list_of (trees ts) ≡ ts
list_back [] = refl
list_back (t ∷ ts) = ap (λ r. t ∷ r) (list_back ts)

abbrev pairs_from : List (List ℕ) → List Tree → List TreePair
pairs_from [] ts = []
pairs_from (k ∷ ks) [] = []
pairs_from (k ∷ ks) (t ∷ ts) = (record { key = k; tree = t }) ∷ pairs_from ks ts

pairs_back : (ps : List TreePair) → pairs_from (keys_of ps) (values_of ps) ≡ ps
pairs_back [] = refl
pairs_back (p ∷ ps) = ap (λ r. p ∷ r) (pairs_back ps)

abbrev portable_of : Tree → Portable
portable_of (Leaf Invalid) = p.Nothing
portable_of (Leaf (Boolean b)) = p.Truth b
portable_of (Leaf (Integer n)) = p.Small n
portable_of (Leaf (LongInteger n)) = p.Big n
portable_of (Leaf (Words b)) = p.Words b
portable_of (Leaf (NodeNumber n)) = p.Node n
portable_of (Leaf (PortNumber n)) = p.Port n
portable_of (Branch Array ts) = p.Items (list_of ts)
portable_of (Branch (Keyed ks) ts) = p.Pairs (pairs_from ks (list_of ts))

back : (x : Portable) → portable_of (tree_of x) ≡ x
back p.Nothing = refl
back (p.Truth b) = refl
back (p.Small n) = refl
back (p.Big n) = refl
back (p.Words t) = refl
back (p.Items ts) = ap p.Items (list_back ts)
back (p.Pairs ps) = ap (λ ts. p.Pairs (pairs_from (keys_of ps) ts)) (list_back (values_of ps)) ∙ ap p.Pairs (pairs_back ps)
back (p.Node n) = refl
back (p.Port n) = refl

-- the tree tells the value
pub tree_tells : (x y : Portable) → tree_of x ≡ tree_of y → x ≡ y
tree_tells x y e = sym (back x) ∙ ap portable_of e ∙ back y

pub pair_same : (a b : TreePair) → a.key ≡ b.key → a.tree ≡ b.tree → a ≡ b
pair_same a b e f = ap (λ k. let r : TreePair = record { key = k; tree = a.tree } in r) e ∙ ap (λ t. let r : TreePair = record { key = b.key; tree = t } in r) f
