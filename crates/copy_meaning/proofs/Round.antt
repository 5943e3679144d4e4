-- A tree that was laid down unfolds to itself.
use Rattle.std.proofs.Common.{◌≡◌, ℕ, suc, ◌+◌, ◌≤◌, List, [], ◌∷◌, ◌++◌, length, Some, refl, sym, ap, ◌∙◌, arith}
use Rattle.std.specs.Prelude.{slice_get}
use Rattle.std.proofs.lemmas.Option.{slice_get_within}
use Rattle.chan_values.specs.Tree as t
use Rattle.chan_values.specs.Tree.{Plain, Kind, Array, Keyed, Tree, Leaf, Branch, Trees, none, more, count_of, parts, depth}
use Rattle.chan_values.specs.Portable.{HasKeys, KeepsKeys, AllKeepKeys}
use Rattle.heap_meaning.specs.Values.{StoreValue}
use Rattle.heap_meaning.specs.Keys.{keys_of, values_of}
use Rattle.heap_meaning.specs.Store.{Object, Store}
use Rattle.heap_meaning.proofs.Writes.{get_front}
use Rattle.copy_meaning.specs.Unfolding.{Single, Holds, Unfolds, single, holds, UnfoldEach, no_item, an_item}
use Rattle.copy_meaning.specs.Answers.{Copy, Answers, whole}
use Rattle.copy_meaning.specs.Forms.{form_of_object, form_in}
use Rattle.copy_meaning.specs.Laying.{containers, arriving, laid, all_laid, entries_with, object_of, objects, all_objects, with_tree, value_of_tree}
use Rattle.copy_meaning.proofs.Unfolding.{tree_found}
use Rattle.copy_meaning.proofs.Answering.{no_chain}
use Rattle.copy_meaning.proofs.Numbers.{objects_length}

-- from this number on the store has these objects
record At (store : Store) (n : ℕ) (os : List Object) : Type 0 where
  each : (i : ℕ) (o : Object) → slice_get os i ≡ Some o → slice_get store (n + i) ≡ Some o

get_back : {A : Type 0} (xs ys : List A) (i : ℕ) → slice_get (xs ++ ys) (length xs + i) ≡ slice_get ys i
get_back [] ys i = ap (slice_get ys) (let q : 0 + i ≡ i = omega arith in q)
get_back (x ∷ xs) ys i = ap (slice_get (x ∷ (xs ++ ys))) (let q : suc (length xs) + i ≡ suc (length xs + i) = omega arith in q) ∙ get_back xs ys i

front : (store : Store) (n : ℕ) (xs ys : List Object) → At store n (xs ++ ys) → At store n xs
front store n xs ys a = record { each = λ i o e. a.each i o (get_front xs ys i (slice_get_within xs i o e) ∙ e) }

back : (store : Store) (n m : ℕ) (xs ys : List Object) → length xs ≡ m → At store n (xs ++ ys) → At store (n + m) ys
back store n m xs ys l a = record { each = λ i o e. ap (slice_get store) (let q : n + m + i ≡ n + (length xs + i) = omega arith in q) ∙ a.each (length xs + i) o (get_back xs ys i ∙ e) }

rest : (store : Store) (n : ℕ) (x : Object) (xs : List Object) → At store n (x ∷ xs) → At store (n + 1) xs
rest store n x xs a = record { each = λ i o e. ap (slice_get store) (let q : n + 1 + i ≡ n + suc i = omega arith in q) ∙ a.each (suc i) o e }

laid_number : (n : ℕ) (ts : Trees) → length (all_laid n ts) ≡ count_of ts
laid_number n none = refl
laid_number n (more t ts) = let r = laid_number (n + containers t) ts in omega arith

pub keys_are : (ks : List (List ℕ)) (vs : List StoreValue) → length ks ≡ length vs → keys_of (entries_with ks vs) ≡ ks
keys_are [] vs e = refl
keys_are (k ∷ ks) [] e = absurd (omega arith)
keys_are (k ∷ ks) (v ∷ vs) e = ap (λ r. k ∷ r) (keys_are ks vs (omega arith))

values_are : (ks : List (List ℕ)) (vs : List StoreValue) → length ks ≡ length vs → values_of (entries_with ks vs) ≡ vs
values_are [] [] e = refl
values_are [] (v ∷ vs) e = absurd (omega arith)
values_are (k ∷ ks) [] e = absurd (omega arith)
values_are (k ∷ ks) (v ∷ vs) e = ap (λ r. v ∷ r) (values_are ks vs (omega arith))

form_laid : (k : Kind) (n : ℕ) (ts : Trees) → HasKeys k ts → form_of_object (Some (object_of k (all_laid n ts))) ≡ Holds k (all_laid n ts)
form_laid Array n ts h = refl
form_laid (Keyed ks) n ts h =
    let l : length ks ≡ length (all_laid n ts) = h.1 ∙ sym (laid_number n ts) in
    ap (λ x. Holds (Keyed x) (values_of (entries_with ks (all_laid n ts)))) (keys_are ks (all_laid n ts) l) ∙ ap (Holds (Keyed ks)) (values_are ks (all_laid n ts) l)

form_arriving : (store : Store) (p : Plain) → form_in store (arriving p) ≡ Single p
form_arriving store t.Invalid = refl
form_arriving store (t.Boolean b) = refl
form_arriving store (t.Integer n) = refl
form_arriving store (t.LongInteger n) = refl
form_arriving store (t.Words bytes) = refl
form_arriving store (t.NodeNumber n) = refl
form_arriving store (t.PortNumber n) = refl

mutual
  laid_unfolds : (store : Store) (n : ℕ) (t : Tree) → KeepsKeys t → At store n (objects n t) → Unfolds (form_in store) (laid n t) t
  laid_unfolds store n (Leaf p) f a = single (form_arriving store p)
  laid_unfolds store n (Branch k ts) f a =
      let here = a.each 0 (object_of k (all_laid (n + 1) ts)) refl in
      let there : slice_get store n ≡ Some (object_of k (all_laid (n + 1) ts)) = ap (slice_get store) (let q : n ≡ n + 0 = omega arith in q) ∙ here in
      holds (ap form_of_object there ∙ form_laid k (n + 1) ts f.0) (all_unfold store (n + 1) ts f.1 (rest store n (object_of k (all_laid (n + 1) ts)) (all_objects (n + 1) ts) a))

  all_unfold : (store : Store) (n : ℕ) (ts : Trees) → AllKeepKeys ts → At store n (all_objects n ts) → UnfoldEach (form_in store) (all_laid n ts) ts
  all_unfold store n none f a = no_item
  all_unfold store n (more t ts) f a =
      an_item
      (laid_unfolds store n t f.0 (front store n (objects n t) (all_objects (n + containers t) ts) a))
      (all_unfold store (n + containers t) ts f.1 (back store n (containers t) (objects n t) (all_objects (n + containers t) ts) (objects_length n t) a))

-- in a store in which a tree was laid down, its value unfolds to the tree
pub laid_down : (store : Store) (t : Tree) → KeepsKeys t → Unfolds (form_in (with_tree store t)) (value_of_tree store t) t
laid_down store t f = laid_unfolds (with_tree store t) (length store) t f (record { each = λ i o e. get_back store (objects (length store) t) i ∙ e })

pub laid_down_leaves : (store : Store) (t : Tree) (bound most : ℕ) → depth t ≤ bound → parts t ≤ most → KeepsKeys t → Answers (form_in (with_tree store t)) bound most (value_of_tree store t) (Copy t)
laid_down_leaves store t bound most d p f =
    let u = laid_down store t f in
    whole (no_chain (form_in (with_tree store t)) bound (value_of_tree store t) t (tree_found (form_in (with_tree store t)) (value_of_tree store t) t u bound d)) u p
