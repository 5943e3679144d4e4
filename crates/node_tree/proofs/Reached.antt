-- What is reached is decided: a way whose inner nodes are numbered up to k, for each k.
use Rattle.std.proofs.Common.{◌≡◌, ◌≤◌, ℕ, zero, suc, Bool, true, false, List, [], ◌∷◌, Option, Some, None, refl, subst, inl, inr, ◌⊎◌, arith, length}
use Rattle.std.specs.Prelude.{◌==◌, ◌&&◌, ◌||◌, slice_get}
use Rattle.std.proofs.lemmas.Bool.{eqb-true, eq-eqb}
use Rattle.std.proofs.lemmas.Option.{slice_get_within}
use Rattle.node_tree.specs.declared.node.Node.{Node}
use Rattle.node_tree.specs.Nodes.{node_at}
use Rattle.node_tree.specs.Family.{has}
use Rattle.node_tree.specs.Reach.{leads, links, Reaches, root, link, ways, reached}
use Rattle.node_tree.proofs.Kin.{same_or}

-- ---- tests of two parts

pub or_left : (a b : Bool) → a ≡ true → (a || b) ≡ true
or_left true b e = refl
or_left false b e = absurd cc

pub or_right : (a b : Bool) → b ≡ true → (a || b) ≡ true
or_right true b e = refl
or_right false b e = e

pub either : (a b : Bool) → (a || b) ≡ true → (a ≡ true) ⊎ (b ≡ true)
either true b e = inl refl
either false b e = inr e

pub both : (a b : Bool) → a ≡ true → b ≡ true → (a && b) ≡ true
both true b e f = f
both false b e f = absurd cc

pub parts : (a b : Bool) → (a && b) ≡ true → (a ≡ true) × (b ≡ true)
parts true b e = (refl, e)
parts false b e = absurd cc

up_to_next : (p k : ℕ) → p ≤ suc k → (p ≡ suc k) ⊎ (p ≤ k)
up_to_next p k h = go (same_or p (suc k))
  where
    go : (p ≡ suc k) ⊎ ((p ≡ suc k → ⊥) × ((p == suc k) ≡ false)) → (p ≡ suc k) ⊎ (p ≤ k)
    go (inl e) = inl e
    go (inr ne) = inr (let differs : p ≡ suc k → ⊥ = ne.0 in omega arith)

-- a link leads from a node
pub linked_from_node : (nodes : List Node) (m n : ℕ) → links nodes m n ≡ true → (1 ≤ m) × (m ≤ length nodes)
linked_from_node nodes zero n e = absurd cc
linked_from_node nodes (suc i) n e = go (slice_get nodes i) refl e
  where
    go : (o : Option Node) → slice_get nodes i ≡ o → leads o (node_at nodes n) (suc i) n ≡ true → (1 ≤ suc i) × (suc i ≤ length nodes)
    go None f g = absurd cc
    go (Some x) f g = let within = slice_get_within nodes i x f in (omega arith, omega arith)

module _ (nodes : List Node) where
  -- a link is a way, and no step is one too
  pub ways_more : (k m n : ℕ) → ways nodes zero m n ≡ true → ways nodes k m n ≡ true
  ways_more zero m n e = e
  ways_more (suc k) m n e = or_left (ways nodes k m n) (ways nodes k m (suc k) && ways nodes k (suc k) n) (ways_more k m n e)

  -- two ways are one, where they meet in a node up to k
  pub ways_meet : (k m p n : ℕ) → 1 ≤ p → p ≤ k → ways nodes k m p ≡ true → ways nodes k p n ≡ true → ways nodes k m n ≡ true
  ways_meet zero m p n from h a b = absurd (omega arith)
  ways_meet (suc k) m p n from h a b = at (λ l x y. ways_meet k x p y from l) (up_to_next p k h)
    where
      to_k : (m : ℕ) → ways nodes (suc k) m (suc k) ≡ true → ways nodes k m (suc k) ≡ true
      to_k m e = go (either (ways nodes k m (suc k)) (ways nodes k m (suc k) && ways nodes k (suc k) (suc k)) e)
        where
          go : (ways nodes k m (suc k) ≡ true) ⊎ ((ways nodes k m (suc k) && ways nodes k (suc k) (suc k)) ≡ true) → ways nodes k m (suc k) ≡ true
          go (inl e) = e
          go (inr e) = (parts (ways nodes k m (suc k)) (ways nodes k (suc k) (suc k)) e).0

      from_k : (n : ℕ) → ways nodes (suc k) (suc k) n ≡ true → ways nodes k (suc k) n ≡ true
      from_k n e = go (either (ways nodes k (suc k) n) (ways nodes k (suc k) (suc k) && ways nodes k (suc k) n) e)
        where
          go : (ways nodes k (suc k) n ≡ true) ⊎ ((ways nodes k (suc k) (suc k) && ways nodes k (suc k) n) ≡ true) → ways nodes k (suc k) n ≡ true
          go (inl e) = e
          go (inr e) = (parts (ways nodes k (suc k) (suc k)) (ways nodes k (suc k) n) e).1

      through : ways nodes k m (suc k) ≡ true → ways nodes k (suc k) n ≡ true → ways nodes (suc k) m n ≡ true
      through a b = or_right (ways nodes k m n) (ways nodes k m (suc k) && ways nodes k (suc k) n) (both (ways nodes k m (suc k)) (ways nodes k (suc k) n) a b)

      at : (p ≤ k → (x y : ℕ) → ways nodes k x p ≡ true → ways nodes k p y ≡ true → ways nodes k x y ≡ true) → (p ≡ suc k) ⊎ (p ≤ k) → ways nodes (suc k) m n ≡ true
      at ih (inl e) = through (to_k m (subst (λ x. ways nodes (suc k) m x ≡ true) e a)) (from_k n (subst (λ x. ways nodes (suc k) x n ≡ true) e b))
      at ih (inr l) = go (either (ways nodes k m p) (ways nodes k m (suc k) && ways nodes k (suc k) p) a) (either (ways nodes k p n) (ways nodes k p (suc k) && ways nodes k (suc k) n) b)
        where
          go : (ways nodes k m p ≡ true) ⊎ ((ways nodes k m (suc k) && ways nodes k (suc k) p) ≡ true) → (ways nodes k p n ≡ true) ⊎ ((ways nodes k p (suc k) && ways nodes k (suc k) n) ≡ true) → ways nodes (suc k) m n ≡ true
          go (inl x) (inl y) = or_left (ways nodes k m n) (ways nodes k m (suc k) && ways nodes k (suc k) n) (ih l m n x y)
          go (inl x) (inr y) = let q = parts (ways nodes k p (suc k)) (ways nodes k (suc k) n) y in through (ih l m (suc k) x q.0) q.1
          go (inr x) (inl y) = let q = parts (ways nodes k m (suc k)) (ways nodes k (suc k) p) x in through q.0 (ih l (suc k) n q.1 y)
          go (inr x) (inr y) = through (parts (ways nodes k m (suc k)) (ways nodes k (suc k) p) x).0 (parts (ways nodes k p (suc k)) (ways nodes k (suc k) n) y).1

  -- what is reached is closed
  pub reached_link : (roots : List ℕ) (m n : ℕ) → reached nodes roots m ≡ true → links nodes m n ≡ true → reached nodes roots n ≡ true
  reached_link [] m n e l = absurd cc
  reached_link (r ∷ roots) m n e l = go (λ f. reached_link roots m n f l) (either (ways nodes (length nodes) r m) (reached nodes roots m) e)
    where
      go : (reached nodes roots m ≡ true → reached nodes roots n ≡ true) → (ways nodes (length nodes) r m ≡ true) ⊎ (reached nodes roots m ≡ true) → reached nodes (r ∷ roots) n ≡ true
      go ih (inl f) =
          let from = linked_from_node nodes m n l in
          or_left (ways nodes (length nodes) r n) (reached nodes roots n) (ways_meet (length nodes) r m n from.0 from.1 f (ways_more (length nodes) m n (or_right (m == n) (links nodes m n) l)))
      go ih (inr f) = or_right (ways nodes (length nodes) r n) (reached nodes roots n) (ih f)

  pub reached_root : (roots : List ℕ) (n : ℕ) → has n roots ≡ true → reached nodes roots n ≡ true
  reached_root [] n e = absurd cc
  reached_root (r ∷ roots) n e = go (reached_root roots n) (either (r == n) (has n roots) e)
    where
      go : (has n roots ≡ true → reached nodes roots n ≡ true) → ((r == n) ≡ true) ⊎ (has n roots ≡ true) → reached nodes (r ∷ roots) n ≡ true
      go ih (inl f) = or_left (ways nodes (length nodes) r n) (reached nodes roots n) (ways_more (length nodes) r n (or_left (r == n) (links nodes r n) f))
      go ih (inr f) = or_right (ways nodes (length nodes) r n) (reached nodes roots n) (ih f)

  -- what is reached is what the relation says
  ways_reach : (roots : List ℕ) (k m n : ℕ) → ways nodes k m n ≡ true → Reaches nodes roots m → Reaches nodes roots n
  ways_reach roots zero m n e h = go (either (m == n) (links nodes m n) e)
    where
      go : ((m == n) ≡ true) ⊎ (links nodes m n ≡ true) → Reaches nodes roots n
      go (inl f) = subst (Reaches nodes roots) (eqb-true m n f) h
      go (inr f) = link h f
  ways_reach roots (suc k) m n e h = go (λ x y. ways_reach roots k x y) (either (ways nodes k m n) (ways nodes k m (suc k) && ways nodes k (suc k) n) e)
    where
      go : ((x y : ℕ) → ways nodes k x y ≡ true → Reaches nodes roots x → Reaches nodes roots y) → (ways nodes k m n ≡ true) ⊎ ((ways nodes k m (suc k) && ways nodes k (suc k) n) ≡ true) → Reaches nodes roots n
      go ih (inl f) = ih m n f h
      go ih (inr f) = let q = parts (ways nodes k m (suc k)) (ways nodes k (suc k) n) f in ih (suc k) n q.1 (ih m (suc k) q.0 h)

  pub reached_from : (all roots : List ℕ) → ((n : ℕ) → has n roots ≡ true → Reaches nodes all n) → (n : ℕ) → reached nodes roots n ≡ true → Reaches nodes all n
  reached_from all [] f n e = absurd cc
  reached_from all (r ∷ roots) f n e = go (λ g. reached_from all roots (λ m q. f m (or_right (r == m) (has m roots) q)) n g) (either (ways nodes (length nodes) r n) (reached nodes roots n) e)
    where
      go : (reached nodes roots n ≡ true → Reaches nodes all n) → (ways nodes (length nodes) r n ≡ true) ⊎ (reached nodes roots n ≡ true) → Reaches nodes all n
      go ih (inl g) = ways_reach all (length nodes) r n g (f r (or_left (r == r) (has r roots) (eq-eqb r r refl)))
      go ih (inr g) = ih g

  pub reaches_reached : (roots : List ℕ) (n : ℕ) → Reaches nodes roots n → reached nodes roots n ≡ true
  reaches_reached roots n (root e) = reached_root roots n e
  reaches_reached roots n (link {m = m} h e) = reached_link roots m n (reaches_reached roots m h) e

pub every_reach : (nodes : List Node) (roots : List ℕ) (n : ℕ) → (reached nodes roots n ≡ true → Reaches nodes roots n) × (Reaches nodes roots n → reached nodes roots n ≡ true)
every_reach nodes roots n = (reached_from nodes roots roots (λ m e. root e) n, reaches_reached nodes roots n)
