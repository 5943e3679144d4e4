-- A value begins a chain that is too long, or else it has one tree.
use Rattle.std.proofs.Common.{◌≡◌, ℕ, zero, suc, ◌≤◌, List, [], ◌∷◌, Option, Some, None, refl, ap, ◌∙◌, subst, arith}
use Rattle.std.specs.Prelude.{slice_get, option_map}
use Rattle.chan_values.specs.Tree.{Kind, Tree, Leaf, Branch, Trees, more, depth, deepest}
use Rattle.copy_meaning.specs.Unfolding.{Form, Single, Holds, Chain, last, link, Unfolds, single, holds, UnfoldEach, no_item, an_item}
use Rattle.copy_meaning.specs.Bounded.{joined, each, opened, closed, tree_within}

-- one item has no tree
pub record Fails {A : Type 0} (one : A → Option Tree) (items : List A) : Type 0 where
  pub place : ℕ
  pub item : A
  pub there : slice_get items place ≡ Some item
  pub misses : one item ≡ None

pub fails : {A : Type 0} (one : A → Option Tree) (items : List A) → each one items ≡ None → Fails one items
fails one [] e = absurd cc
fails one (a ∷ items) e = go (λ q. fails one items q) (one a) (each one items) refl refl e
  where
    go : (each one items ≡ None → Fails one items) → (o : Option Tree) (os : Option Trees) → one a ≡ o → each one items ≡ os → joined o os ≡ None → Fails one (a ∷ items)
    go rec None os p q e = record { place = 0; item = a; there = refl; misses = p }
    go rec (Some t) None p q e = let f = rec q in record { place = suc f.place; item = f.item; there = f.there; misses = f.misses }
    go rec (Some t) (Some ts) p q e = absurd cc

joined_none : (o : Option Tree) → joined o None ≡ None
joined_none None = refl
joined_none (Some t) = refl

pub none_of : {A : Type 0} (one : A → Option Tree) (items : List A) (i : ℕ) (a : A) → slice_get items i ≡ Some a → one a ≡ None → each one items ≡ None
none_of one [] i a g n = absurd cc
none_of one (b ∷ items) zero a g n = let q : b ≡ a = cc in ap (λ x. joined x (each one items)) (ap one q ∙ n)
none_of one (b ∷ items) (suc i) a g n = ap (joined (one b)) (none_of one items i a g n) ∙ joined_none (one b)

no_map : {A B : Type 0} (f : A → B) (o : Option A) → option_map f o ≡ None → o ≡ None
no_map f None e = refl
no_map f (Some x) e = absurd cc

-- what has no tree within the bound begins a longer chain
pub none_chain : {A : Type 0} (form : A → Form A) (n : ℕ) (a : A) → tree_within form n a ≡ None → Chain form (suc n) a
none_chain form zero a e = go (form a) refl e
  where
    go : (s : Form _) → form a ≡ s → closed s ≡ None → Chain form 1 a
    go (Single p) q e = absurd cc
    go (Holds k items) q e = last q
none_chain form (suc n) a e = go (λ b. none_chain form n b) (form a) refl e
  where
    go : ((b : _) → tree_within form n b ≡ None → Chain form (suc n) b) → (s : Form _) → form a ≡ s → opened (tree_within form n) s ≡ None → Chain form (suc (suc n)) a
    go rec (Single p) q e = absurd cc
    go rec (Holds k items) q e =
        let f = fails (tree_within form n) items (no_map (Branch k) (each (tree_within form n) items) e) in
        link f.place q f.there (rec f.item f.misses)

pub chain_none : {A : Type 0} (form : A → Form A) (n : ℕ) (a : A) → Chain form (suc n) a → tree_within form n a ≡ None
chain_none form zero _ (last e) = ap closed e
chain_none form zero _ (link i e g c) = ap closed e
chain_none form (suc n) _ (link {b = b} {kind = k} {items = items} i e g c) =
    ap (opened (tree_within form n)) e ∙ ap (option_map (Branch k)) (none_of (tree_within form n) items i b g (chain_none form n b c))

-- a longer chain begins with a shorter one
pub chain_shorter : {A : Type 0} (form : A → Form A) (n : ℕ) (a : A) → Chain form (suc (suc n)) a → Chain form (suc n) a
chain_shorter form zero _ (link i e g c) = last e
chain_shorter form (suc n) _ (link {b = b} i e g c) = link i e g (chain_shorter form n b c)

-- a value unfolds to the tree, which is not deeper than this
pub record Has {A : Type 0} (form : A → Form A) (a : A) (n : ℕ) (t : Tree) : Type 0 where
  pub unfolds : Unfolds form a t
  pub within : depth t ≤ n

pub record HasAll {A : Type 0} (form : A → Form A) (items : List A) (n : ℕ) (ts : Trees) : Type 0 where
  pub unfold_all : UnfoldEach form items ts
  pub all_within : deepest ts ≤ n

has_all : {A : Type 0} (form : A → Form A) (n : ℕ) (one : A → Option Tree) → ((a : A) (t : Tree) → one a ≡ Some t → Has form a n t) → (items : List A) (ts : Trees) → each one items ≡ Some ts → HasAll form items n ts
has_all form n one h [] ts e = subst (HasAll form [] n) (cc) (record { unfold_all = no_item; all_within = omega arith })
has_all form n one h (a ∷ items) ts e = go (λ us q. has_all form n one h items us q) (one a) (each one items) refl refl e
  where
    go : ((us : Trees) → each one items ≡ Some us → HasAll form items n us) → (o : Option Tree) (os : Option Trees) → one a ≡ o → each one items ≡ os → joined o os ≡ Some ts → HasAll form (a ∷ items) n ts
    go rec None os p q e = absurd cc
    go rec (Some t) None p q e = absurd cc
    go rec (Some t) (Some us) p q e =
        let x = h a t p in let y = rec us q in
        let r : HasAll form (a ∷ items) n (more t us) = record { unfold_all = an_item x.unfolds y.unfold_all; all_within = (let l = x.within in let m = y.all_within in omega arith) } in
        subst (HasAll form (a ∷ items) n) (cc) r

-- the tree that is found is one to which the value unfolds
pub has_tree : {A : Type 0} (form : A → Form A) (n : ℕ) (a : A) (t : Tree) → tree_within form n a ≡ Some t → Has form a n t
has_tree form zero a t e = go (form a) refl e
  where
    go : (s : Form _) → form a ≡ s → closed s ≡ Some t → Has form a 0 t
    go (Single p) q e = subst (Has form a 0) (cc) (let r : Has form a 0 (Leaf p) = record { unfolds = single q; within = omega arith } in r)
    go (Holds k items) q e = absurd cc
has_tree form (suc n) a t e = go (λ b u. has_tree form n b u) (form a) refl e
  where
    holding : (k : Kind) (items : List _) → form a ≡ Holds k items → ((us : Trees) → each (tree_within form n) items ≡ Some us → HasAll form items n us) → (o : Option Trees) → each (tree_within form n) items ≡ o → option_map (Branch k) o ≡ Some t → Has form a (suc n) t
    holding k items q rec None p e = absurd cc
    holding k items q rec (Some us) p e =
        let x = rec us p in
        let r : Has form a (suc n) (Branch k us) = record { unfolds = holds q x.unfold_all; within = (let l = x.all_within in omega arith) } in
        subst (Has form a (suc n)) (cc) r

    go : ((b : _) (u : Tree) → tree_within form n b ≡ Some u → Has form b n u) → (s : Form _) → form a ≡ s → opened (tree_within form n) s ≡ Some t → Has form a (suc n) t
    go rec (Single p) q e = subst (Has form a (suc n)) (cc) (let r : Has form a (suc n) (Leaf p) = record { unfolds = single q; within = omega arith } in r)
    go rec (Holds k items) q e = holding k items q (λ us r. has_all form n (tree_within form n) rec items us r) (each (tree_within form n) items) refl e

-- a tree to which a value unfolds is the one that is found
mutual
  pub tree_found : {A : Type 0} (form : A → Form A) (a : A) (t : Tree) → Unfolds form a t → (n : ℕ) → depth t ≤ n → tree_within form n a ≡ Some t
  tree_found form a _ (single e) zero l = ap closed e
  tree_found form a _ (single e) (suc n) l = ap (opened (tree_within form n)) e
  tree_found form a _ (holds e u) zero l = absurd (omega arith)
  tree_found form a _ (holds {kind = k} {items = items} {ts = ts} e u) (suc n) l = ap (opened (tree_within form n)) e ∙ ap (option_map (Branch k)) (trees_found form items ts u n (omega arith))

  trees_found : {A : Type 0} (form : A → Form A) (items : List A) (ts : Trees) → UnfoldEach form items ts → (n : ℕ) → deepest ts ≤ n → each (tree_within form n) items ≡ Some ts
  trees_found form _ _ no_item n l = refl
  trees_found form _ _ (an_item {a = a} {items = items} {t = t} {ts = ts} x y) n l =
      let p = tree_found form a t x n (omega arith) in
      let q = trees_found form items ts y n (omega arith) in
      ap (λ o. joined o (each (tree_within form n) items)) p ∙ ap (joined (Some t)) q
