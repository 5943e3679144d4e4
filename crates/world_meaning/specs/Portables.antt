-- Trees as the portable values of messages.
use Rattle.std.specs.Prelude.{List, [], ◌∷◌}
use Rattle.chan_values.specs.declared.portable.Portable.{Portable}
use Rattle.chan_values.specs.declared.portable.Portable.TheVariants as p
use Rattle.chan_values.specs.Tree.{Plain, Invalid, Boolean, Integer, LongInteger, Words, NodeNumber, PortNumber, Array, Keyed, Tree, Leaf, Branch, Trees, none, more, TreePair}
use Rattle.brs_grammar.specs.Form.{Text}

abbrev pub plain_portable : Plain → Portable
plain_portable Invalid = p.Nothing
plain_portable (Boolean b) = p.Truth b
plain_portable (Integer n) = p.Small n
plain_portable (LongInteger n) = p.Big n
plain_portable (Words bytes) = p.Words bytes
plain_portable (NodeNumber n) = p.Node n
plain_portable (PortNumber n) = p.Port n

abbrev pub list_of : Trees → List Tree
list_of none = []
list_of (more t ts) = t ∷ list_of ts

-- each key with its item
abbrev pub pair_list : List Text → Trees → List TreePair
pair_list (k ∷ ks) (more t ts) = record { key = k; tree = t } ∷ pair_list ks ts
pair_list ks ts = []

-- the portable value that is this tree
abbrev pub portable_of : Tree → Portable
portable_of (Leaf plain) = plain_portable plain
portable_of (Branch Array ts) = p.Items (list_of ts)
portable_of (Branch (Keyed ks) ts) = p.Pairs (pair_list ks ts)
