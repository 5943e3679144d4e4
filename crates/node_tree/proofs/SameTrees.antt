-- The test of two values tells whether they are the same.
use Rattle.std.proofs.Common.{◌≡◌, ℕ, Bool, true, false, List, [], ◌∷◌, refl, sym, ap, ◌∙◌}
use Rattle.std.specs.Prelude.{◌&&◌, ◌↔◌, IsTrue}
use Rattle.std.specs.Str.{bytes_eq}
use Rattle.std.proofs.lemmas.Bool.Decides.{Decides-int_eq, Decides-eqb}
use Rattle.std.proofs.lemmas.Slice.Eq.{bytes_eq-Decides}
use Rattle.chan_values.specs.declared.portable.Portable.{Portable}
use Rattle.chan_values.specs.Tree.{Plain, Invalid, Boolean, Integer, LongInteger, Words, NodeNumber, PortNumber, Kind, Array, Keyed, Tree, Leaf, Branch, Trees, none, more}
use Rattle.chan_values.specs.View.{tree_of}
use Rattle.chan_values.proofs.Inverse.{tree_tells}
use Rattle.node_tree.specs.SameTree.{same_plain, same_keys, same_kind, same_tree, same_trees}

-- both tests hold
both : (a b : Bool) → (a && b) ≡ true → (a ≡ true) × (b ≡ true)
both true true e = (refl, refl)
both true false e = absurd cc
both false b e = absurd cc

together : (a b : Bool) → a ≡ true → b ≡ true → (a && b) ≡ true
together true true e f = refl
together true false e f = absurd cc
together false b e f = absurd cc

plain_tells : (p q : Plain) → same_plain p q ≡ true → p ≡ q
plain_tells Invalid Invalid e = refl
plain_tells (Boolean true) (Boolean true) e = refl
plain_tells (Boolean false) (Boolean false) e = refl
plain_tells (Boolean true) (Boolean false) e = absurd cc
plain_tells (Boolean false) (Boolean true) e = absurd cc
plain_tells (Integer a) (Integer b) e = ap Integer ((Decides-int_eq a b).0 e)
plain_tells (LongInteger a) (LongInteger b) e = ap LongInteger ((Decides-int_eq a b).0 e)
plain_tells (Words a) (Words b) e = ap Words ((bytes_eq-Decides a b).0 e)
plain_tells (NodeNumber a) (NodeNumber b) e = ap NodeNumber ((Decides-eqb a b).0 e)
plain_tells (PortNumber a) (PortNumber b) e = ap PortNumber ((Decides-eqb a b).0 e)
plain_tells _ _ e = absurd cc

plain_self : (p : Plain) → same_plain p p ≡ true
plain_self Invalid = refl
plain_self (Boolean true) = refl
plain_self (Boolean false) = refl
plain_self (Integer a) = (Decides-int_eq a a).1 refl
plain_self (LongInteger a) = (Decides-int_eq a a).1 refl
plain_self (Words a) = (bytes_eq-Decides a a).1 refl
plain_self (NodeNumber a) = (Decides-eqb a a).1 refl
plain_self (PortNumber a) = (Decides-eqb a a).1 refl

keys_tell : (ks ls : List (List ℕ)) → same_keys ks ls ≡ true → ks ≡ ls
keys_tell [] [] e = refl
keys_tell (k ∷ ks) (l ∷ ls) e =
    let h = both (bytes_eq k l) (same_keys ks ls) e in
    let a = (bytes_eq-Decides k l).0 h.0 in
    let b = keys_tell ks ls h.1 in
    cc
keys_tell [] (l ∷ ls) e = absurd cc
keys_tell (k ∷ ks) [] e = absurd cc

keys_self : (ks : List (List ℕ)) → same_keys ks ks ≡ true
keys_self [] = refl
keys_self (k ∷ ks) = together _ _ ((bytes_eq-Decides k k).1 refl) (keys_self ks)

kind_tells : (k l : Kind) → same_kind k l ≡ true → k ≡ l
kind_tells Array Array e = refl
kind_tells (Keyed ks) (Keyed ls) e = ap Keyed (keys_tell ks ls e)
kind_tells Array (Keyed ls) e = absurd cc
kind_tells (Keyed ks) Array e = absurd cc

kind_self : (k : Kind) → same_kind k k ≡ true
kind_self Array = refl
kind_self (Keyed ks) = keys_self ks

mutual
  pub same_tells : (t u : Tree) → same_tree t u ≡ true → t ≡ u
  same_tells (Leaf p) (Leaf q) e = ap Leaf (plain_tells p q e)
  same_tells (Branch k ts) (Branch l us) e =
      let h = both (same_kind k l) (same_trees ts us) e in
      let a = kind_tells k l h.0 in
      let b = all_tell ts us h.1 in
      cc
  same_tells (Leaf p) (Branch l us) e = absurd cc
  same_tells (Branch k ts) (Leaf q) e = absurd cc

  all_tell : (ts us : Trees) → same_trees ts us ≡ true → ts ≡ us
  all_tell none none e = refl
  all_tell (more t ts) (more u us) e =
      let h = both (same_tree t u) (same_trees ts us) e in
      let a = same_tells t u h.0 in
      let b = all_tell ts us h.1 in
      cc
  all_tell none (more u us) e = absurd cc
  all_tell (more t ts) none e = absurd cc

mutual
  pub same_self : (t : Tree) → same_tree t t ≡ true
  same_self (Leaf p) = plain_self p
  same_self (Branch k ts) = together _ _ (kind_self k) (all_self ts)

  all_self : (ts : Trees) → same_trees ts ts ≡ true
  all_self none = refl
  all_self (more t ts) = together _ _ (same_self t) (all_self ts)

-- a test that tells whether two values are the same is the test of their trees
pub test_is : (r : Bool) (x y : Portable) → (IsTrue r ↔ (x ≡ y)) → r ≡ same_tree (tree_of x) (tree_of y)
test_is r x y h = go r (same_tree (tree_of x) (tree_of y)) refl refl
  where
    go : (a b : Bool) → r ≡ a → same_tree (tree_of x) (tree_of y) ≡ b → a ≡ b
    go true true e f = refl
    go false false e f = refl
    go true false e f =
        let same : x ≡ y = h.0 e in
        absurd (let one : same_tree (tree_of x) (tree_of y) ≡ true = ap (λ z. same_tree (tree_of x) (tree_of z)) (sym same) ∙ same_self (tree_of x) in cc)
    go false true e f = absurd (let one : r ≡ true = h.1 (tree_tells x y (same_tells _ _ f)) in cc)
