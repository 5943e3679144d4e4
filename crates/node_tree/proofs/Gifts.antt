-- A gift to render: what a search over links finds, and what the gift keeps.
use Rattle.std.proofs.Common.{◌≡◌, ℕ, zero, suc, ◌≤◌, ◌+◌, Bool, true, false, List, [], ◌∷◌, ◌++◌, Option, Some, None, refl, sym, ap, ◌∙◌, subst, inl, inr, ◌⊎◌, length, arith}
use Rattle.std.specs.Prelude.{◌==◌, ◌||◌, not, slice_get, option_map, if◌then◌else◌}
use Rattle.std.specs.List.{AllByRecursion}
use Rattle.std.proofs.lemmas.Bool.{eqb-true, eq-eqb}
use Rattle.node_tree.specs.declared.node.Node.{Node}
use Rattle.node_tree.specs.Nodes.{node_at, owner_of, parent_in, children_in}
use Rattle.node_tree.specs.Family.{has, IsFamily, IsSound, is as is_parent, once_where, times}
use Rattle.node_tree.specs.Reach.{parent_and, kin, kin_in, named_by, leads, links, Reaches, root, link, reached, changed_where, render_owned, given}
use Rattle.node_tree.specs.Visited.{open_in, is_open, linked_in, linked_from, IsReach}
use Rattle.node_tree.specs.Closed.{MayLead, IsClosed, IsKept}
use Rattle.node_tree.proofs.Kin.{parent_has_child, child_has_parent}
use Rattle.node_tree.proofs.Ascents.{same_parents}
use Rattle.node_tree.proofs.Reached.{or_left, or_right, either, every_reach}

some_same : {A : Type 0} {x y : A} → Some x ≡ Some y → x ≡ y
some_same e = cc

-- ---- changes by number

pub where_at : (p : ℕ → Bool) (first : ℕ) (xs : List Node) (i : ℕ) → slice_get (changed_where p render_owned first xs) i ≡ option_map (λ x. if p (i + first) then render_owned x else x) (slice_get xs i)
where_at p first [] i = refl
where_at p first (x ∷ xs) zero = let same : first ≡ 0 + first = omega arith in ap (λ n. Some (if p n then render_owned x else x)) same
where_at p first (x ∷ xs) (suc i) = let same : i + suc first ≡ suc i + first = omega arith in where_at p (suc first) xs i ∙ ap (λ n. option_map (λ x. if p n then render_owned x else x) (slice_get xs i)) same

pub where_node : (p : ℕ → Bool) (nodes : List Node) (n : ℕ) → node_at (changed_where p render_owned 1 nodes) n ≡ option_map (λ x. if p n then render_owned x else x) (node_at nodes n)
where_node p nodes zero = refl
where_node p nodes (suc i) = let same : i + 1 ≡ suc i = omega arith in where_at p 1 nodes i ∙ ap (λ n. option_map (λ x. if p n then render_owned x else x) (slice_get nodes i)) same

pub where_length : (p : ℕ → Bool) (first : ℕ) (xs : List Node) → length (changed_where p render_owned first xs) ≡ length xs
where_length p first [] = refl
where_length p first (x ∷ xs) = ap suc (where_length p (suc first) xs)

-- what a change of owners leaves alone is read as before
pub where_read : {B : Type 0} (r : Option Node → B) → ((x : Node) → r (Some (render_owned x)) ≡ r (Some x)) → (p : ℕ → Bool) (nodes : List Node) (n : ℕ) → r (node_at (changed_where p render_owned 1 nodes) n) ≡ r (node_at nodes n)
where_read r keeps p nodes n = ap r (where_node p nodes n) ∙ go (node_at nodes n)
  where
    at : (b : Bool) (x : Node) → r (Some (if b then render_owned x else x)) ≡ r (Some x)
    at true x = keeps x
    at false x = refl

    go : (o : Option Node) → r (option_map (λ x. if p n then render_owned x else x) o) ≡ r o
    go None = refl
    go (Some x) = at (p n) x

same_where_from : (p q : ℕ → Bool) (first : ℕ) (xs : List Node) → ((i : ℕ) (x : Node) → slice_get xs i ≡ Some x → (if p (i + first) then render_owned x else x) ≡ (if q (i + first) then render_owned x else x)) → changed_where p render_owned first xs ≡ changed_where q render_owned first xs
same_where_from p q first [] h = refl
same_where_from p q first (x ∷ xs) h =
    let here : 0 + first ≡ first = omega arith in
    ap (λ y. y ∷ changed_where p render_owned (suc first) xs) (subst (λ n. (if p n then render_owned x else x) ≡ (if q n then render_owned x else x)) here (h zero x refl))
    ∙ ap (λ l. (if q first then render_owned x else x) ∷ l) (same_where_from p q (suc first) xs (λ i y e. let next : suc i + first ≡ i + suc first = omega arith in subst (λ n. (if p n then render_owned y else y) ≡ (if q n then render_owned y else y)) next (h (suc i) y e)))

pub same_where : (p q : ℕ → Bool) (nodes : List Node) → ((n : ℕ) (x : Node) → node_at nodes n ≡ Some x → (if p n then render_owned x else x) ≡ (if q n then render_owned x else x)) → changed_where p render_owned 1 nodes ≡ changed_where q render_owned 1 nodes
same_where p q nodes h = same_where_from p q 1 nodes (λ i x e. let same : suc i ≡ i + 1 = omega arith in subst (λ n. (if p n then render_owned x else x) ≡ (if q n then render_owned x else x)) same (h (suc i) x e))

-- ---- what a search finds

-- a link leads where the node's own parent, children and fields say
has_append : (n : ℕ) (xs ys : List ℕ) → has n (xs ++ ys) ≡ (has n xs || has n ys)
has_append n [] ys = refl
has_append n (x ∷ xs) ys = ap (λ b. (x == n) || b) (has_append n xs ys) ∙ or_assoc (x == n) (has n xs) (has n ys)
  where
    or_assoc : (a b c : Bool) → (a || (b || c)) ≡ ((a || b) || c)
    or_assoc true b c = refl
    or_assoc false b c = refl

has_parent : (p : ℕ) (o : Option ℕ) (ks : List ℕ) → has p (parent_and o ks) ≡ true → (o ≡ Some p) ⊎ (has p ks ≡ true)
has_parent p None ks h = inr h
has_parent p (Some q) ks h = go (either (q == p) (has p ks) h)
  where
    go : ((q == p) ≡ true) ⊎ (has p ks ≡ true) → (Some q ≡ Some p) ⊎ (has p ks ≡ true)
    go (inl e) = inl (ap Some (eqb-true q p e))
    go (inr e) = inr e

is_parent_first : (p : ℕ) (o : Option ℕ) (ks : List ℕ) → o ≡ Some p → has p (parent_and o ks) ≡ true
is_parent_first p None ks e = absurd cc
is_parent_first p (Some q) ks e = or_left (q == p) (has p ks) (eq-eqb q p (some_same e))

is_child_behind : (p : ℕ) (o : Option ℕ) (ks : List ℕ) → has p ks ≡ true → has p (parent_and o ks) ≡ true
is_child_behind p None ks e = e
is_child_behind p (Some q) ks e = or_right (q == p) (has p ks) e

-- kin is so both ways
kin_back : (nodes : List Node) → IsFamily nodes → (m n : ℕ) (x : Node) → node_at nodes m ≡ Some x → has m (kin_in (node_at nodes n)) ≡ true → has n (kin x) ≡ true
kin_back nodes family m n x e h = go (node_at nodes n) refl h
  where
    go : (o : Option Node) → node_at nodes n ≡ o → has m (kin_in o) ≡ true → has n (kin x) ≡ true
    go None f g = absurd cc
    go (Some y) f g = at (has_parent m y.parent y.children g)
      where
        at : (y.parent ≡ Some m) ⊎ (has m y.children ≡ true) → has n (kin x) ≡ true
        at (inl up) = is_child_behind n x.parent x.children (ap (λ o. has n (children_in o)) (sym e) ∙ parent_has_child nodes family n m (ap parent_in f ∙ up))
        at (inr below) = is_parent_first n x.parent x.children (ap parent_in (sym e) ∙ child_has_parent nodes family n m (ap (λ o. has m (children_in o)) f ∙ below))

pub link_is : (nodes : List Node) → IsFamily nodes → (m n : ℕ) → links nodes m n ≡ true → has n (linked_from nodes m) ≡ true
link_is nodes family m n l = go (node_at nodes m) refl l
  where
    go : (o : Option Node) → node_at nodes m ≡ o → leads o (node_at nodes n) m n ≡ true → has n (linked_in o) ≡ true
    go None e h = absurd cc
    go (Some x) e h = has_append n (kin x) (named_by x.fields) ∙ at (either (has n (kin x) || has m (kin_in (node_at nodes n))) (has n (named_by x.fields)) h)
      where
        near : (has n (kin x) ≡ true) ⊎ (has m (kin_in (node_at nodes n)) ≡ true) → has n (kin x) ≡ true
        near (inl g) = g
        near (inr g) = kin_back nodes family m n x e g

        at : ((has n (kin x) || has m (kin_in (node_at nodes n))) ≡ true) ⊎ (has n (named_by x.fields) ≡ true) → (has n (kin x) || has n (named_by x.fields)) ≡ true
        at (inl g) = or_left (has n (kin x)) (has n (named_by x.fields)) (near (either (has n (kin x)) (has m (kin_in (node_at nodes n))) g))
        at (inr g) = or_right (has n (kin x)) (has n (named_by x.fields)) g

pub is_link : (nodes : List Node) (m n : ℕ) → has n (linked_from nodes m) ≡ true → links nodes m n ≡ true
is_link nodes m n h = go (node_at nodes m) refl h
  where
    go : (o : Option Node) → node_at nodes m ≡ o → has n (linked_in o) ≡ true → leads o (node_at nodes n) m n ≡ true
    go None e g = absurd cc
    go (Some x) e g = at (either (has n (kin x)) (has n (named_by x.fields)) (sym (has_append n (kin x) (named_by x.fields)) ∙ g))
      where
        at : (has n (kin x) ≡ true) ⊎ (has n (named_by x.fields) ≡ true) → ((has n (kin x) || has m (kin_in (node_at nodes n))) || has n (named_by x.fields)) ≡ true
        at (inl f) = or_left (has n (kin x) || has m (kin_in (node_at nodes n))) (has n (named_by x.fields)) (or_left (has n (kin x)) (has m (kin_in (node_at nodes n))) f)
        at (inr f) = or_right (has n (kin x) || has m (kin_in (node_at nodes n))) (has n (named_by x.fields)) f

-- one of all
pub all_has : (P : ℕ → Type 0) (xs : List ℕ) (n : ℕ) → AllByRecursion P xs → has n xs ≡ true → P n
all_has P [] n h e = absurd cc
all_has P (x ∷ xs) n h e = go (all_has P xs n h.1) (either (x == n) (has n xs) e)
  where
    go : (has n xs ≡ true → P n) → ((x == n) ≡ true) ⊎ (has n xs ≡ true) → P n
    go ih (inl q) = subst P (eqb-true x n q) h.0
    go ih (inr q) = ih q

-- where links from nodes of render lead to nodes of render alone
closed_link : (nodes : List Node) → IsFamily nodes → IsClosed nodes → (m n : ℕ) (x y : Node) → node_at nodes m ≡ Some x → node_at nodes n ≡ Some y → x.owner ≡ 0 → links nodes m n ≡ true → y.owner ≡ 0
closed_link nodes family closed m n x y ex ey own l = go (either (has n (kin x)) (has n (named_by x.fields)) (sym (has_append n (kin x) (named_by x.fields)) ∙ ap (λ o. has n (linked_in o)) (sym ex) ∙ link_is nodes family m n l))
  where
    lead : MayLead x.owner (owner_of nodes n) → y.owner ≡ 0
    lead may = subst (MayLead x.owner) (ap (option_map (λ z. z.owner)) ey) may own

    go : (has n (kin x) ≡ true) ⊎ (has n (named_by x.fields) ≡ true) → y.owner ≡ 0
    go (inl f) = lead (all_has (λ i. MayLead x.owner (owner_of nodes i)) (kin x) n (closed m x ex).kin_of f)
    go (inr f) = lead (all_has (λ i. MayLead x.owner (owner_of nodes i)) (named_by x.fields) n (closed m x ex).fields f)

is_render : (x : Node) → x.owner ≡ 0 → x ≡ render_owned x
is_render x e = ap (λ o. let y : Node = record x { owner = o } in y) e

-- a search doesn't go to a node only where that is render's, and links are known
shut : (closed : Bool) (x : Node) → open_in closed (Some x) ≡ false → (closed ≡ true) × (x.owner ≡ 0)
shut false x e = absurd cc
shut true x e = go (x.owner == 0) refl e
  where
    go : (b : Bool) → (x.owner == 0) ≡ b → not b ≡ false → (true ≡ true) × (x.owner ≡ 0)
    go true f g = (refl, eqb-true x.owner 0 f)
    go false f g = absurd cc

module _ (nodes : List Node) (closed : Bool) (r : ℕ) (found : List ℕ) (kept : IsKept nodes closed) (search_is : IsReach nodes closed r found) where
  -- a node is found, or it is render's and links are known
  found_or : (n : ℕ) (y : Node) → node_at nodes n ≡ Some y → (is_open nodes closed n ≡ true → has n found ≡ true) → (has n found ≡ true) ⊎ ((closed ≡ true) × (y.owner ≡ 0))
  found_or n y ey finds = go (is_open nodes closed n) refl
    where
      go : (b : Bool) → is_open nodes closed n ≡ b → (has n found ≡ true) ⊎ ((closed ≡ true) × (y.owner ≡ 0))
      go true e = inl (finds e)
      go false e = inr (shut closed y (ap (open_in closed) (sym ey) ∙ e))

  each_reached : (n : ℕ) (y : Node) → node_at nodes n ≡ Some y → Reaches nodes (r ∷ []) n → (has n found ≡ true) ⊎ ((closed ≡ true) × (y.owner ≡ 0))
  each_reached n y ey (root e) = found_or n y ey (λ o. subst (λ i. has i found ≡ true) same (search_is.start (subst (λ i. is_open nodes closed i ≡ true) (sym same) o)))
    where
      from : (b : Bool) → (r == n) ≡ b → (b || false) ≡ true → r ≡ n
      from true f g = eqb-true r n f
      from false f g = absurd cc

      same : r ≡ n
      same = from (r == n) refl e
  each_reached n y ey (link {m = m} h l) = from (node_at nodes m) refl (λ x ex. each_reached m x ex h)
    where
      at : (x : Node) → node_at nodes m ≡ Some x → (has m found ≡ true) ⊎ ((closed ≡ true) × (x.owner ≡ 0)) → (has n found ≡ true) ⊎ ((closed ≡ true) × (y.owner ≡ 0))
      at x ex (inl f) = found_or n y ey (λ o. search_is.goes_on m n f (link_is nodes kept.sound.family m n l) o)
      at x ex (inr k) = inr (k.0, closed_link nodes kept.sound.family (kept.closed k.0) m n x y ex ey k.1 l)

      from : (o : Option Node) → node_at nodes m ≡ o → ((x : Node) → node_at nodes m ≡ Some x → (has m found ≡ true) ⊎ ((closed ≡ true) × (x.owner ≡ 0))) → (has n found ≡ true) ⊎ ((closed ≡ true) × (y.owner ≡ 0))
      from None e ih = absurd (nothing (ap (λ o. leads o (node_at nodes n) m n) (sym e) ∙ l))
        where
          nothing : false ≡ true → ⊥
          nothing q = cc
      from (Some x) e ih = at x e (ih x e)

  pub search_gives : changed_where (λ n. has n found) render_owned 1 nodes ≡ given nodes (r ∷ [])
  search_gives = same_where (λ n. has n found) (reached nodes (r ∷ [])) nodes (λ n x ex. go n x ex (has n found) (reached nodes (r ∷ []) n) refl refl)
    where
      left_out : (n : ℕ) (x : Node) → has n found ≡ false → (has n found ≡ true) ⊎ ((closed ≡ true) × (x.owner ≡ 0)) → x ≡ render_owned x
      left_out n x e (inl f) = absurd (differ (sym e ∙ f))
        where
          differ : false ≡ true → ⊥
          differ q = cc
      left_out n x e (inr k) = is_render x k.1

      go : (n : ℕ) (x : Node) → node_at nodes n ≡ Some x → (a b : Bool) → has n found ≡ a → reached nodes (r ∷ []) n ≡ b → (if a then render_owned x else x) ≡ (if b then render_owned x else x)
      go n x ex true true e f = refl
      go n x ex false false e f = refl
      go n x ex true false e f = absurd (differ (sym f ∙ (every_reach nodes (r ∷ []) n).1 (search_is.only n e)))
        where
          differ : false ≡ true → ⊥
          differ q = cc
      go n x ex false true e f = left_out n x e (each_reached n x ex ((every_reach nodes (r ∷ []) n).0 f))

-- ---- what a gift keeps

pub given_sound : (nodes : List Node) (roots : List ℕ) → IsSound nodes → IsSound (given nodes roots)
given_sound nodes roots sound =
    let p = reached nodes roots in
    let size : length (given nodes roots) ≡ length nodes = where_length p 1 nodes in
    let most : length nodes ≤ 1048576 = sound.most in
    record {
      family = record { once = λ q m. ap (times m) (where_read children_in (λ x. refl) p nodes q) ∙ sound.family.once q m ∙ ap (λ o. once_where (is_parent q o)) (sym (where_read parent_in (λ x. refl) p nodes m)) };
      rooted = λ n. same_parents nodes (given nodes roots) (λ i. where_read parent_in (λ x. refl) p nodes i) n (sound.rooted n);
      most = omega arith;
    }

-- the node of a number after a gift
pub given_some : (nodes : List Node) (roots : List ℕ) (n : ℕ) (y : Node) → node_at (given nodes roots) n ≡ Some y → (x : Node) × (node_at nodes n ≡ Some x) × (y ≡ (if reached nodes roots n then render_owned x else x))
given_some nodes roots n y e = go (node_at nodes n) refl (sym (where_node (reached nodes roots) nodes n) ∙ e)
  where
    go : (o : Option Node) → node_at nodes n ≡ o → option_map (λ x. if reached nodes roots n then render_owned x else x) o ≡ Some y → (x : Node) × (node_at nodes n ≡ Some x) × (y ≡ (if reached nodes roots n then render_owned x else x))
    go None f g = absurd cc
    go (Some x) f g = (x, f, sym (some_same g))

render_stays : (nodes : List Node) (roots : List ℕ) (n : ℕ) → owner_of nodes n ≡ Some 0 → owner_of (given nodes roots) n ≡ Some 0
render_stays nodes roots n e = ap (option_map (λ x. x.owner)) (where_node (reached nodes roots) nodes n) ∙ go (node_at nodes n) e
  where
    at : (b : Bool) (x : Node) → Some x.owner ≡ Some 0 → Some (if b then render_owned x else x).owner ≡ Some 0
    at true x f = refl
    at false x f = f

    go : (o : Option Node) → option_map (λ x. x.owner) o ≡ Some 0 → option_map (λ x. x.owner) (option_map (λ x. if reached nodes roots n then render_owned x else x) o) ≡ Some 0
    go None f = absurd cc
    go (Some x) f = at (reached nodes roots n) x f
