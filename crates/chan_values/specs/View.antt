-- The tree that a portable value is.
use Rattle.chan_values.specs.declared.portable.Portable.{Portable}
use Rattle.chan_values.specs.declared.portable.Portable.TheVariants as p
use Rattle.chan_values.specs.declared.portable.Pair.{Pair}
use Rattle.chan_values.specs.Tree.{Tree, Invalid, Boolean, Integer, LongInteger, Words, NodeNumber, PortNumber, Leaf, TreePair, array_of, pairs_of}

abbrev pub tree_of : Portable → Tree
tree_of p.Nothing = Leaf Invalid
tree_of (p.Truth b) = Leaf (Boolean b)
tree_of (p.Small n) = Leaf (Integer n)
tree_of (p.Big n) = Leaf (LongInteger n)
tree_of (p.Words t) = Leaf (Words t)
tree_of (p.Items ts) = array_of ts
tree_of (p.Pairs ps) = pairs_of ps
tree_of (p.Node n) = Leaf (NodeNumber n)
tree_of (p.Port n) = Leaf (PortNumber n)

abbrev pub tree_pair_of : Pair → TreePair
tree_pair_of x = record { key = x.key; tree = tree_of x.value }
