-- Lists of trees with one more at the end, and as far as a walk has come.
use Rattle.std.proofs.Common.{◌≡◌, ℕ, zero, suc, ◌+◌, ◌<◌, ◌≤◌, max, List, [], ◌∷◌, ◌++◌, map, take, length, get_or, Some, refl, sym, ap, ◌∙◌, arith, add-one, subst}
use Rattle.std.specs.Prelude.{slice_get}
use Rattle.std.proofs.Math.Seq.{take-length}
use Rattle.std.proofs.lemmas.List.{map-append, length-map}
use Rattle.std.proofs.lemmas.Option.{slice_get-get_or, slice_get-map}
use Rattle.chan_values.specs.declared.portable.Portable.{Portable}
use Rattle.chan_values.specs.declared.portable.Pair.{Pair}
use Rattle.chan_values.specs.View.{tree_of, tree_pair_of}
use Rattle.chan_values.specs.Tree.{Tree, depth, deepest, parts, all_parts, trees, TreePair, values_of}

pub deepest_more : (ts : List Tree) (t : Tree) → deepest (trees (ts ++ t ∷ [])) ≡ max (deepest (trees ts)) (depth t)
deepest_more [] t = omega arith
deepest_more (u ∷ ts) t = let r = deepest_more ts t in omega arith

pub parts_more : (ts : List Tree) (t : Tree) → all_parts (trees (ts ++ t ∷ [])) ≡ all_parts (trees ts) + parts t
parts_more [] t = omega arith
parts_more (u ∷ ts) t = let r = parts_more ts t in omega arith

pub deepest_front : (ts : List Tree) (n : ℕ) → deepest (trees (take n ts)) ≤ deepest (trees ts)
deepest_front [] zero = omega arith
deepest_front [] (suc n) = omega arith
deepest_front (t ∷ ts) zero = omega arith
deepest_front (t ∷ ts) (suc n) = let r = deepest_front ts n in omega arith

pub parts_front : (ts : List Tree) (n : ℕ) → all_parts (trees (take n ts)) ≤ all_parts (trees ts)
parts_front [] zero = omega arith
parts_front [] (suc n) = omega arith
parts_front (t ∷ ts) zero = omega arith
parts_front (t ∷ ts) (suc n) = let r = parts_front ts n in omega arith

take_one : {A : Type 0} (items : List A) (i : ℕ) (a : A) → slice_get items i ≡ Some a → take (i + 1) items ≡ take i items ++ a ∷ []
take_one items i a e = ap (λ n. take n items) (add-one i) ∙ go items i e
  where
    go : (items : List _) (i : ℕ) → slice_get items i ≡ Some a → take (suc i) items ≡ take i items ++ a ∷ []
    go [] i e = absurd cc
    go (x ∷ items) zero e = let q : x ≡ a = cc in ap (λ y. y ∷ []) q
    go (x ∷ items) (suc i) e = ap (λ r. x ∷ r) (go items i e)

pub some_same : {A : Type 0} {x y : A} → Some x ≡ Some y → x ≡ y
some_same e = cc

pub item_at : {A B : Type 0} (f : A → B) (xs : List A) (i : ℕ) (x : A) → i < length xs → x ≡ get_or xs i x → slice_get (map f xs) i ≡ Some (f x)
item_at f xs i x l e = slice_get-map f xs i ∙ (let r = slice_get-get_or xs i x l ∙ ap Some (sym e) in cc)

-- an item of a slice that is seen through `f`
pub walked : {A B : Type 0} (f : A → B) (xs : List A) (ts : List B) (i : ℕ) (x : A) → map f xs ≡ ts → i < length xs → x ≡ get_or xs i x → take (i + 1) ts ≡ take i ts ++ f x ∷ []
walked f xs ts i x m l e = take_one ts i (f x) (ap (λ us. slice_get us i) (sym m) ∙ item_at f xs i x l e)

-- the whole of a slice that is seen through `f`
pub all_walked : {A B : Type 0} (f : A → B) (xs : List A) (ts : List B) (n : ℕ) → map f xs ≡ ts → n ≡ length xs → take n ts ≡ ts
all_walked f xs ts n m e = ap (λ k. take k ts) (e ∙ sym (length-map xs f) ∙ ap length m) ∙ take-length ts

pub values_walked : (ps : List TreePair) (i : ℕ) (p : TreePair) → take (i + 1) ps ≡ take i ps ++ p ∷ [] → values_of (take (i + 1) ps) ≡ values_of (take i ps) ++ p.tree ∷ []
values_walked ps i p e = ap values_of e ∙ map-append (λ n. n.tree) (take i ps) (p ∷ [])

pub values_front : (ps : List TreePair) (n : ℕ) → values_of (take n ps) ≡ take n (values_of ps)
values_front [] zero = refl
values_front [] (suc n) = refl
values_front (p ∷ ps) zero = refl
values_front (p ∷ ps) (suc n) = ap (λ r. p.tree ∷ r) (values_front ps n)

-- what one item more changes
pub record Turn (ts done : List Tree) (t : Tree) (next : List Tree) : Type 0 where
  pub deep : deepest (trees next) ≡ max (deepest (trees done)) (depth t)
  pub many : all_parts (trees next) ≡ all_parts (trees done) + parts t
  pub no_deeper : deepest (trees next) ≤ deepest (trees ts)
  pub no_more : all_parts (trees next) ≤ all_parts (trees ts)

pub turn : (ts : List Tree) (i : ℕ) (t : Tree) → take (i + 1) ts ≡ take i ts ++ t ∷ [] → Turn ts (take i ts) t (take (i + 1) ts)
turn ts i t e = record {
  deep = ap (λ us. deepest (trees us)) e ∙ deepest_more (take i ts) t;
  many = ap (λ us. all_parts (trees us)) e ∙ parts_more (take i ts) t;
  no_deeper = deepest_front ts (i + 1);
  no_more = parts_front ts (i + 1);
}

pub item_turn : (xs : List Portable) (ts : List Tree) (i : ℕ) (x : Portable) → map tree_of xs ≡ ts → i < length xs → x ≡ get_or xs i x → Turn ts (take i ts) (tree_of x) (take (i + 1) ts)
item_turn xs ts i x m l e = turn ts i (tree_of x) (walked tree_of xs ts i x m l e)

pub pair_turn : (xs : List Pair) (ps : List TreePair) (i : ℕ) (x : Pair) → map tree_pair_of xs ≡ ps → i < length xs → x ≡ get_or xs i x → Turn (values_of ps) (values_of (take i ps)) (tree_pair_of x).tree (values_of (take (i + 1) ps))
pair_turn xs ps i x m l e =
    let w = values_walked ps i (tree_pair_of x) (walked tree_pair_of xs ps i x m l e) in
    record {
      deep = ap (λ us. deepest (trees us)) w ∙ deepest_more (values_of (take i ps)) (tree_pair_of x).tree;
      many = ap (λ us. all_parts (trees us)) w ∙ parts_more (values_of (take i ps)) (tree_pair_of x).tree;
      no_deeper = subst (λ us. deepest (trees us) ≤ deepest (trees (values_of ps))) (sym (values_front ps (i + 1))) (deepest_front (values_of ps) (i + 1));
      no_more = subst (λ us. all_parts (trees us) ≤ all_parts (trees (values_of ps))) (sym (values_front ps (i + 1))) (parts_front (values_of ps) (i + 1));
    }
