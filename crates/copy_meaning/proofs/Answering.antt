-- Of the three answers exactly one is given.
use Rattle.std.proofs.Common.{◌≡◌, ℕ, suc, ◌+◌, ◌<◌, ◌≤◌, Option, Some, None, Bool, true, false, cond, nat_lt, refl, sym, ap, ◌∙◌, subst, arith, add-one}
use Rattle.chan_values.specs.Tree.{Tree, depth, parts}
use Rattle.copy_meaning.specs.Unfolding.{Form, Chain, Unfolds}
use Rattle.copy_meaning.specs.Bounded.{tree_within}
use Rattle.copy_meaning.specs.Answers.{Answer, Copy, TooLarge, Answers, too_deep, too_large, whole, answer_of, Leaves, unfolded}
use Rattle.std.proofs.lemmas.Bool.Decides.{nat_tests}
use Rattle.heap_meaning.specs.Values.{StoreValue}
use Rattle.heap_meaning.specs.Store.{Store}
use Rattle.chan_values.specs.Portable.{IsBounded}
use Rattle.copy_meaning.specs.Forms.{form_in}
use Rattle.copy_meaning.proofs.Unfolding.{none_chain, chain_none, has_tree, tree_found}

pub tree_unique : {A : Type 0} (form : A → Form A) (a : A) (t u : Tree) → Unfolds form a t → Unfolds form a u → t ≡ u
tree_unique form a t u x y =
    let p = tree_found form a t x (depth t + depth u) (omega arith) in
    let q = tree_found form a u y (depth t + depth u) (omega arith) in
    cc

long : {A : Type 0} (form : A → Form A) (n : ℕ) (a : A) → Chain form (suc n) a → Chain form (n + 1) a
long form n a c = subst (λ m. Chain form m a) (sym (add-one n)) c

short : {A : Type 0} (form : A → Form A) (n : ℕ) (a : A) → Chain form (n + 1) a → Chain form (suc n) a
short form n a c = subst (λ m. Chain form m a) (add-one n) c

-- what has a tree within the bound begins no longer chain
pub no_chain : {A : Type 0} (form : A → Form A) (n : ℕ) (a : A) (t : Tree) → tree_within form n a ≡ Some t → Chain form (n + 1) a → ⊥
no_chain form n a t e c = let q = chain_none form n a (short form n a c) in let r : Some t ≡ None = sym e ∙ q in absurd cc

pub deep_answer : {A : Type 0} (form : A → Form A) (n : ℕ) (a : A) → tree_within form n a ≡ None → Chain form (n + 1) a
deep_answer form n a e = long form n a (none_chain form n a e)

is_above : (a b : ℕ) → nat_lt a b ≡ true → a < b
is_above a b h = grind (arith, nat_tests)

is_not_above : (a b : ℕ) → nat_lt a b ≡ false → b ≤ a
is_not_above a b h = grind (arith, nat_tests)

-- the tree within the bound, or that there is none, is the answer
pub answer_within : {A : Type 0} (form : A → Form A) (bound most : ℕ) (a : A) → Answers form bound most a (answer_of most (tree_within form bound a))
answer_within form bound most a = go (tree_within form bound a) refl
  where
    sized : (t : Tree) → tree_within form bound a ≡ Some t → (b : Bool) → nat_lt most (parts t) ≡ b → Answers form bound most a (cond b TooLarge (Copy t))
    sized t e true l = too_large (no_chain form bound a t e) (has_tree form bound a t e).unfolds (is_above most (parts t) l)
    sized t e false l = whole (no_chain form bound a t e) (has_tree form bound a t e).unfolds (is_not_above most (parts t) l)

    go : (o : Option Tree) → tree_within form bound a ≡ o → Answers form bound most a (answer_of most o)
    go None e = too_deep (deep_answer form bound a e)
    go (Some t) e = sized t e (nat_lt most (parts t)) refl

pub one_answer : {A : Type 0} (form : A → Form A) (bound most : ℕ) (a : A) (x y : Answer) → Answers form bound most a x → Answers form bound most a y → x ≡ y
one_answer form bound most a _ _ (too_deep c) (too_deep d) = refl
one_answer form bound most a _ _ (too_deep c) (too_large n u l) = absurd (n c)
one_answer form bound most a _ _ (too_deep c) (whole n u l) = absurd (n c)
one_answer form bound most a _ _ (too_large n u l) (too_deep c) = absurd (n c)
one_answer form bound most a _ _ (too_large n u l) (too_large n' u' l') = refl
one_answer form bound most a _ _ (too_large {t = t} n u l) (whole {t = t'} n' u' l') = let e = ap parts (tree_unique form a t t' u u') in absurd (omega arith)
one_answer form bound most a _ _ (whole n u l) (too_deep c) = absurd (n c)
one_answer form bound most a _ _ (whole {t = t} n u l) (too_large {t = t'} n' u' l') = let e = ap parts (tree_unique form a t t' u u') in absurd (omega arith)
one_answer form bound most a _ _ (whole {t = t} n u l) (whole {t = t'} n' u' l') = ap Copy (tree_unique form a t t' u u')

-- a value that begins no longer chain has its tree within the bound
pub shallow : {A : Type 0} (form : A → Form A) (n : ℕ) (a : A) (t : Tree) → (Chain form (n + 1) a → ⊥) → Unfolds form a t → tree_within form n a ≡ Some t
shallow form n a t h u = go (tree_within form n a) refl
  where
    go : (o : Option Tree) → tree_within form n a ≡ o → tree_within form n a ≡ Some t
    go None e = absurd (h (deep_answer form n a e))
    go (Some t') e = e ∙ ap Some (tree_unique form a t' t (has_tree form n a t' e).unfolds u)

-- what has the same tree within the bound has the same answer
pub answers_same : {A B : Type 0} (form : A → Form A) (form' : B → Form B) (bound most : ℕ) (a : A) (b : B) (x : Answer) → tree_within form' bound b ≡ tree_within form bound a → Answers form bound most a x → Answers form' bound most b x
answers_same form form' bound most a b _ e (too_deep c) = too_deep (deep_answer form' bound b (e ∙ chain_none form bound a (short form bound a c)))
answers_same form form' bound most a b _ e (too_large {t = t} n u l) = let f = e ∙ shallow form bound a t n u in too_large (no_chain form' bound b t f) (has_tree form' bound b t f).unfolds l
answers_same form form' bound most a b _ e (whole {t = t} n u l) = let f = e ∙ shallow form bound a t n u in whole (no_chain form' bound b t f) (has_tree form' bound b t f).unfolds l

pub unfolded_leaves : (store : Store) (v : StoreValue) → Leaves store v (unfolded store v)
unfolding unfolded
unfolded_leaves store v = answer_within (form_in store) 64 65536 v

-- what is not too deep and not too large keeps the bounds
pub copied_bounded : {A : Type 0} (form : A → Form A) (bound most : ℕ) (a : A) (answer : Answer) (t : Tree) → Answers form bound most a answer → answer ≡ Copy t → bound ≤ 64 → most ≤ 65536 → IsBounded t
copied_bounded form bound most a _ t (too_deep c) e l m = absurd cc
copied_bounded form bound most a _ t (too_large n u x) e l m = absurd cc
copied_bounded form bound most a _ t (whole {t = t'} n u x) e l m =
    let q : t' ≡ t = cc in
    subst IsBounded q (record { depth = (let d = (has_tree form bound a t' (shallow form bound a t' n u)).within in omega arith); parts = omega arith })
