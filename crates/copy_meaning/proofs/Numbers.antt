-- The numbers that laying down gives, and laying down one tree more.
use Rattle.std.proofs.Common.{◌≡◌, ℕ, suc, ◌+◌, List, [], ◌∷◌, ◌++◌, length, length-append, append_assoc, append-nil, refl, sym, ap, ◌∙◌, arith}
use Rattle.chan_values.specs.Tree.{Tree, Leaf, Branch, Trees, none, more, trees}
use Rattle.copy_meaning.specs.Laying.{containers, all_containers, laid, all_laid, objects, all_objects}

abbrev pub snoc : Trees → Tree → Trees
snoc none t = more t none
snoc (more u us) t = more u (snoc us t)

pub trees_snoc : (ts : List Tree) (t : Tree) → trees (ts ++ t ∷ []) ≡ snoc (trees ts) t
trees_snoc [] t = refl
trees_snoc (u ∷ ts) t = ap (more u) (trees_snoc ts t)

mutual
  pub objects_length : (n : ℕ) (t : Tree) → length (objects n t) ≡ containers t
  objects_length n (Leaf p) = refl
  objects_length n (Branch k ts) = let r = all_objects_length (n + 1) ts in omega arith

  pub all_objects_length : (n : ℕ) (ts : Trees) → length (all_objects n ts) ≡ all_containers ts
  all_objects_length n none = refl
  all_objects_length n (more t ts) =
      let a = length-append (objects n t) (all_objects (n + containers t) ts) in
      let b = objects_length n t in
      let c = all_objects_length (n + containers t) ts in omega arith

move : {A : Type 0} (f : ℕ → A) (a b : ℕ) → a ≡ b → f a ≡ f b
move f a b e = ap f e

laid_snoc : (n : ℕ) (ts : Trees) (t : Tree) → all_laid n (snoc ts t) ≡ all_laid n ts ++ laid (n + all_containers ts) t ∷ []
laid_snoc n none t = move (λ m. laid m t ∷ []) n (n + 0) (omega arith)
laid_snoc n (more u us) t = ap (λ r. laid n u ∷ r) (laid_snoc (n + containers u) us t ∙ move (λ m. all_laid (n + containers u) us ++ laid m t ∷ []) (n + containers u + all_containers us) (n + (containers u + all_containers us)) (omega arith))

objects_snoc : (n : ℕ) (ts : Trees) (t : Tree) → all_objects n (snoc ts t) ≡ all_objects n ts ++ objects (n + all_containers ts) t
objects_snoc n none t = append-nil (objects n t) ∙ move (λ m. objects m t) n (n + 0) (omega arith)
objects_snoc n (more u us) t =
    ap (λ r. objects n u ++ r) (objects_snoc (n + containers u) us t ∙ move (λ m. all_objects (n + containers u) us ++ objects m t) (n + containers u + all_containers us) (n + (containers u + all_containers us)) (omega arith))
    ∙ sym (append_assoc (objects n u) (all_objects (n + containers u) us) (objects (n + (containers u + all_containers us)) t))

pub laid_more : (n : ℕ) (ts : List Tree) (t : Tree) → all_laid n (trees (ts ++ t ∷ [])) ≡ all_laid n (trees ts) ++ laid (n + all_containers (trees ts)) t ∷ []
laid_more n ts t = ap (all_laid n) (trees_snoc ts t) ∙ laid_snoc n (trees ts) t

pub objects_more : (n : ℕ) (ts : List Tree) (t : Tree) → all_objects n (trees (ts ++ t ∷ [])) ≡ all_objects n (trees ts) ++ objects (n + all_containers (trees ts)) t
objects_more n ts t = ap (all_objects n) (trees_snoc ts t) ∙ objects_snoc n (trees ts) t

pub laid_length : (n : ℕ) (ts : List Tree) → length (all_laid n (trees ts)) ≡ length ts
laid_length n [] = refl
laid_length n (t ∷ ts) = ap suc (laid_length (n + containers t) ts)
