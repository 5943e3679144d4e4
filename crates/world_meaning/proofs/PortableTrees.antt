-- A tree that was made a portable value is that tree.
use Rattle.std.proofs.Common.{◌≡◌, List, [], ◌∷◌, length, refl, ap, ◌∙◌, arith}
use Rattle.chan_values.specs.Tree.{Plain, Invalid, Boolean, Integer, LongInteger, Words, NodeNumber, PortNumber, Array, Keyed, Tree, Leaf, Branch, Trees, none, more, trees, count_of, keys_of, values_of}
use Rattle.chan_values.specs.Portable.{KeepsKeys}
use Rattle.chan_values.specs.View.{tree_of}
use Rattle.brs_grammar.specs.Form.{Text}
use Rattle.world_meaning.specs.Portables.{plain_portable, list_of, pair_list, portable_of}

plain_is : (p : Plain) → tree_of (plain_portable p) ≡ Leaf p
plain_is Invalid = refl
plain_is (Boolean b) = refl
plain_is (Integer n) = refl
plain_is (LongInteger n) = refl
plain_is (Words bytes) = refl
plain_is (NodeNumber n) = refl
plain_is (PortNumber n) = refl

list_is : (ts : Trees) → trees (list_of ts) ≡ ts
list_is none = refl
list_is (more t ts) = ap (more t) (list_is ts)

keys_are : (ks : List Text) (ts : Trees) → length ks ≡ count_of ts → keys_of (pair_list ks ts) ≡ ks
keys_are [] ts e = refl
keys_are (k ∷ ks) none e = absurd (omega arith)
keys_are (k ∷ ks) (more t ts) e = ap (λ l. k ∷ l) (keys_are ks ts (omega arith))

values_are : (ks : List Text) (ts : Trees) → length ks ≡ count_of ts → trees (values_of (pair_list ks ts)) ≡ ts
values_are [] none e = refl
values_are [] (more t ts) e = absurd (omega arith)
values_are (k ∷ ks) none e = absurd (omega arith)
values_are (k ∷ ks) (more t ts) e = ap (more t) (values_are ks ts (omega arith))

pub portable_is : (t : Tree) → KeepsKeys t → tree_of (portable_of t) ≡ t
portable_is (Leaf p) h = plain_is p
portable_is (Branch Array ts) h = ap (Branch Array) (list_is ts)
portable_is (Branch (Keyed ks) ts) h = ap (λ l. Branch (Keyed l) (trees (values_of (pair_list ks ts)))) (keys_are ks ts h.0.1) ∙ ap (Branch (Keyed ks)) (values_are ks ts h.0.1)
