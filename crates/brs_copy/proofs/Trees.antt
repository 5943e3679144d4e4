-- The trees of a value's items, as far as a walk over them has come.
use Rattle.std.proofs.Common.{◌≡◌, ℕ, zero, suc, ◌+◌, ◌≤◌, max, List, [], ◌∷◌, ◌++◌, take, length, Option, Some, None, refl, ap, ◌∙◌, subst, arith, add-one}
use Rattle.std.specs.Prelude.{slice_get}
use Rattle.std.proofs.Math.Seq.{take-length}
use Rattle.chan_values.specs.Tree.{Tree, Trees, none, more, parts, all_parts, depth, deepest}
use Rattle.copy_meaning.specs.Bounded.{joined, each}
use Rattle.copy_meaning.proofs.Numbers.{snoc}

pub parts_snoc : (ts : Trees) (t : Tree) → all_parts (snoc ts t) ≡ all_parts ts + parts t
parts_snoc none t = omega arith
parts_snoc (more u us) t = let r = parts_snoc us t in omega arith

pub take_one : {A : Type 0} (items : List A) (i : ℕ) (a : A) → slice_get items i ≡ Some a → take (i + 1) items ≡ take i items ++ a ∷ []
take_one items i a e = ap (λ n. take n items) (add-one i) ∙ go items i e
  where
    go : (items : List _) (i : ℕ) → slice_get items i ≡ Some a → take (suc i) items ≡ take i items ++ a ∷ []
    go [] i e = absurd cc
    go (x ∷ items) zero e = let q : x ≡ a = cc in ap (λ y. y ∷ []) q
    go (x ∷ items) (suc i) e = ap (λ r. x ∷ r) (go items i e)

each_snoc : {A : Type 0} (one : A → Option Tree) (items : List A) (a : A) (ts : Trees) (t : Tree) → each one items ≡ Some ts → one a ≡ Some t → each one (items ++ a ∷ []) ≡ Some (snoc ts t)
each_snoc one [] a ts t e g = let q : none ≡ ts = cc in subst (λ x. each one (a ∷ []) ≡ Some (snoc x t)) q (ap (λ o. joined o (Some none)) g)
each_snoc one (b ∷ items) a ts t e g = split (λ us q. each_snoc one items a us t q g) (one b) (each one items) refl refl e
  where
    split : ((us : Trees) → each one items ≡ Some us → each one (items ++ a ∷ []) ≡ Some (snoc us t)) → (o : Option Tree) (os : Option Trees) → one b ≡ o → each one items ≡ os → joined o os ≡ Some ts → joined (one b) (each one (items ++ a ∷ [])) ≡ Some (snoc ts t)
    split rec None os p q e = absurd cc
    split rec (Some u) None p q e = absurd cc
    split rec (Some u) (Some us) p q e = let r : more u us ≡ ts = cc in ap (λ o. joined o (each one (items ++ a ∷ []))) p ∙ ap (joined (Some u)) (rec us q) ∙ ap (λ x. Some (snoc x t)) r

-- one item more has its tree
pub each_more : {A : Type 0} (one : A → Option Tree) (items : List A) (at : ℕ) (a : A) (ts : Trees) (t : Tree) → each one (take at items) ≡ Some ts → slice_get items at ≡ Some a → one a ≡ Some t → each one (take (at + 1) items) ≡ Some (snoc ts t)
each_more one items at a ts t e g h = ap (each one) (take_one items at a g) ∙ each_snoc one (take at items) a ts t e h

pub each_whole : {A : Type 0} (one : A → Option Tree) (items : List A) (at : ℕ) (o : Option Trees) → each one (take at items) ≡ o → at ≡ length items → each one items ≡ o
each_whole one items at o f e = subst (λ xs. each one xs ≡ o) (ap (λ n. take n items) e ∙ take-length items) f

-- the tree of an item among all, which has its place behind those before it
pub record Amid {A : Type 0} (one : A → Option Tree) (a : A) (us ts : Trees) : Type 0 where
  pub tree : Tree
  pub its : one a ≡ Some tree
  pub less : all_parts us + parts tree ≤ all_parts ts
  pub shallower : max (deepest us) (depth tree) ≤ deepest ts

pub amid : {A : Type 0} (one : A → Option Tree) (items : List A) (at : ℕ) (a : A) (us ts : Trees) → each one items ≡ Some ts → each one (take at items) ≡ Some us → slice_get items at ≡ Some a → Amid one a us ts
amid one [] at a us ts e f g = absurd cc
amid one (b ∷ items) at a us ts e f g = split (one b) (each one items) refl refl e at f g (λ ws i vs q r x. amid one items i a vs ws q r x)
  where
    first : (u : Tree) (ws : Trees) → one b ≡ Some u → more u ws ≡ ts → none ≡ us → b ≡ a → Amid one a us ts
    first u ws p r x y = record {
      tree = u;
      its = subst (λ z. one z ≡ Some u) y p;
      less = (let k = ap all_parts r in let l = ap all_parts x in omega arith);
      shallower = (let k = ap deepest r in let l = ap deepest x in omega arith);
    }

    later : (u : Tree) (ws : Trees) → one b ≡ Some u → more u ws ≡ ts → (o : Option Trees) → joined (Some u) o ≡ Some us → ((vs : Trees) → o ≡ Some vs → Amid one a vs ws) → Amid one a us ts
    later u ws p r None f rec = absurd cc
    later u ws p r (Some vs) f rec =
        let m = rec vs refl in
        let x : more u vs ≡ us = cc in
        record {
          tree = m.tree;
          its = m.its;
          less = (let k = ap all_parts r in let l = ap all_parts x in let n = m.less in omega arith);
          shallower = (let k = ap deepest r in let l = ap deepest x in let n = m.shallower in omega arith);
        }

    split : (o : Option Tree) (os : Option Trees) → one b ≡ o → each one items ≡ os → joined o os ≡ Some ts → (at : ℕ) → each one (take at (b ∷ items)) ≡ Some us → slice_get (b ∷ items) at ≡ Some a → ((ws : Trees) (i : ℕ) (vs : Trees) → each one items ≡ Some ws → each one (take i items) ≡ Some vs → slice_get items i ≡ Some a → Amid one a vs ws) → Amid one a us ts
    split None os p q e at f g rec = absurd cc
    split (Some u) None p q e at f g rec = absurd cc
    split (Some u) (Some ws) p q e zero f g rec = first u ws p (cc) (cc) (cc)
    split (Some u) (Some ws) p q e (suc i) f g rec = later u ws p (cc) (each one (take i items)) (subst (λ o. joined o (each one (take i items)) ≡ Some us) p f) (λ vs r. rec ws i vs q r g)
