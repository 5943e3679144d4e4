-- Trees as stored values, one to one.
use Rattle.std.specs.Prelude.{◌≡◌, ℕ, ℤ, Bool, List, refl}
use Rattle.std.proofs.Common.{ap}
use base.Stored.{Coded, Gv, gnil, gnum, gcons, coded_ℕ, coded_ℤ, coded_bool, coded_list, coded×, coded⊎, coded_unit}
use Rattle.std.specs.Coded.{code_by}
use mathlib.Core.Logic.{◌⊎◌, inl, inr}
use Rattle.chan_values.specs.Tree.{Plain, Invalid, Boolean, Integer, LongInteger, Words, NodeNumber, PortNumber, Kind, Array, Keyed, Tree, Leaf, Branch, Trees, none, more, TreePair}

abbrev PlainSum : Type 0
PlainSum = Unit {0} ⊎ (Bool ⊎ (ℤ ⊎ (ℤ ⊎ (List ℕ ⊎ (ℕ ⊎ ℕ)))))

abbrev plain_to : Plain → PlainSum
plain_to Invalid = inl tt
plain_to (Boolean b) = inr (inl b)
plain_to (Integer n) = inr (inr (inl n))
plain_to (LongInteger n) = inr (inr (inr (inl n)))
plain_to (Words b) = inr (inr (inr (inr (inl b))))
plain_to (NodeNumber n) = inr (inr (inr (inr (inr (inl n)))))
plain_to (PortNumber n) = inr (inr (inr (inr (inr (inr n)))))

abbrev plain_from : PlainSum → Plain
plain_from (inl _) = Invalid
plain_from (inr (inl b)) = Boolean b
plain_from (inr (inr (inl n))) = Integer n
plain_from (inr (inr (inr (inl n)))) = LongInteger n
plain_from (inr (inr (inr (inr (inl b))))) = Words b
plain_from (inr (inr (inr (inr (inr (inl n)))))) = NodeNumber n
plain_from (inr (inr (inr (inr (inr (inr n)))))) = PortNumber n

pub plain_back : (p : Plain) → plain_from (plain_to p) ≡ p
plain_back Invalid = refl
plain_back (Boolean b) = refl
plain_back (Integer n) = refl
plain_back (LongInteger n) = refl
plain_back (Words b) = refl
plain_back (NodeNumber n) = refl
plain_back (PortNumber n) = refl

abbrev pub plain_code : Coded Plain
plain_code = code_by PlainSum (coded⊎ coded_unit (coded⊎ coded_bool (coded⊎ coded_ℤ (coded⊎ coded_ℤ (coded⊎ (coded_list coded_ℕ) (coded⊎ coded_ℕ coded_ℕ)))))) plain_to plain_from plain_back

abbrev kind_to : Kind → Unit {0} ⊎ List (List ℕ)
kind_to Array = inl tt
kind_to (Keyed ks) = inr ks

abbrev kind_from : Unit {0} ⊎ List (List ℕ) → Kind
kind_from (inl _) = Array
kind_from (inr ks) = Keyed ks

pub kind_back : (k : Kind) → kind_from (kind_to k) ≡ k
kind_back Array = refl
kind_back (Keyed ks) = refl

abbrev pub kind_code : Coded Kind
kind_code = code_by (Unit {0} ⊎ List (List ℕ)) (coded⊎ coded_unit (coded_list (coded_list coded_ℕ))) kind_to kind_from kind_back

abbrev mutual
  tree_gv : Tree → Gv
  tree_gv (Leaf p) = gcons gnil (plain_code.code p)
  tree_gv (Branch k ts) = gcons (gnum 0) (gcons (kind_code.code k) (trees_gv ts))

  trees_gv : Trees → Gv
  trees_gv none = gnil
  trees_gv (more t ts) = gcons (tree_gv t) (trees_gv ts)

mutual
  pub tree_inj : (x y : Tree) → tree_gv x ≡ tree_gv y → x ≡ y
  tree_inj (Leaf p) (Leaf q) e = ap Leaf (plain_code.inj p q (cc))
  tree_inj (Leaf p) (Branch k ts) e = absurd cc
  tree_inj (Branch k ts) (Leaf q) e = absurd cc
  tree_inj (Branch k ts) (Branch l us) e = let a = kind_code.inj k l (cc) in let b = trees_inj ts us (cc) in cc

  pub trees_inj : (x y : Trees) → trees_gv x ≡ trees_gv y → x ≡ y
  trees_inj none none e = refl
  trees_inj none (more u us) e = absurd cc
  trees_inj (more t ts) none e = absurd cc
  trees_inj (more t ts) (more u us) e = let a = tree_inj t u (cc) in let b = trees_inj ts us (cc) in cc

abbrev pub tree_code : Coded Tree
tree_code = record { code = tree_gv; inj = tree_inj }

abbrev pub pair_code : Coded TreePair
pair_code = code_by (List ℕ × Tree) (coded× (coded_list coded_ℕ) tree_code) (λ n. (n.key, n.tree)) (λ p. record { key = p.0; tree = p.1 }) (λ _. refl)
