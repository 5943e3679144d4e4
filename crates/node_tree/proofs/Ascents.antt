-- The way upward from a node ends, and no node stands on the way up from itself.
use Rattle.std.proofs.Common.{◌≡◌, ◌≢◌, ℕ, zero, suc, ◌+◌, ◌<◌, ◌≤◌, Bool, true, false, ◌||◌, ◌⊎◌, inl, inr, List, [], ◌∷◌, Option, Some, None, length, refl, sym, ap, subst, ◌∙◌, arith, ◌==◌}
use Rattle.std.specs.Option.{ForSome}
use Rattle.std.specs.Bool.{nat_eq}
use Rattle.std.specs.Cmp.{nat_eq_equiv}
use Rattle.std.specs.List.{IsDistinct, list_any, AllByRecursion}
use Rattle.std.proofs.lemmas.Bool.{eqb-true, eq-eqb}
use Rattle.std.proofs.lemmas.Map.Keys.{IsDistinct-cons}
use Rattle.std.proofs.lemmas.Map.Steps.{length-le_from_distinct_below}
use Rattle.node_tree.specs.declared.node.Node.{Node}
use Rattle.node_tree.specs.Nodes.{IsNode, parent_of}
use Rattle.node_tree.specs.Family.{upward, ancestry, has, IsFamily, Rooted, top, below, IsTree}
use Rattle.node_tree.proofs.Kin.{parent_is_node, same_or}

-- ---- above

-- a node is the parent of another, or stands above that parent
pub data Above (nodes : List Node) : ℕ → ℕ → Type 0 where
  parent : {n a : ℕ} → parent_of nodes n ≡ Some a → Above nodes n a
  higher : {n p a : ℕ} → parent_of nodes n ≡ Some p → Above nodes p a → Above nodes n a

some_same : {A : Type 0} {x y : A} → Some x ≡ Some y → x ≡ y
some_same e = cc

one_above : (nodes : List Node) (p n q : ℕ) → Above nodes p n → parent_of nodes n ≡ Some q → Above nodes p q
one_above nodes p n q (parent f) e = higher f (parent e)
one_above nodes p n q (higher {p = r} f g) e = higher f (one_above nodes r n q g e)

from_parent : (nodes : List Node) (n p : ℕ) → parent_of nodes n ≡ Some p → Above nodes n n → Above nodes p p
from_parent nodes n p e (parent f) = subst (λ q. Above nodes q p) (some_same (sym f ∙ e)) (parent e)
from_parent nodes n p e (higher {p = q} f g) = subst (λ r. Above nodes r p) (some_same (sym f ∙ e)) (one_above nodes q n p g e)

no_loop : (nodes : List Node) (n : ℕ) → Rooted nodes n → Above nodes n n → ⊥
no_loop nodes n (top e) (parent f) = cc
no_loop nodes n (top e) (higher f g) = cc
no_loop nodes n (below {p = p} e r) up = no_loop nodes p r (from_parent nodes n p e up)

above_of : (nodes : List Node) (k n a : ℕ) (o : Option ℕ) → parent_of nodes n ≡ o → has a (upward k nodes o) ≡ true → Above nodes n a
above_of nodes zero n a o e h = absurd cc
above_of nodes (suc k) n a None e h = absurd cc
above_of nodes (suc k) n a (Some p) e h = go (p == a) refl (λ g. above_of nodes k p a (parent_of nodes p) refl g) h
  where
    go : (b : Bool) → (p == a) ≡ b → (has a (upward k nodes (parent_of nodes p)) ≡ true → Above nodes p a) → (b || has a (upward k nodes (parent_of nodes p))) ≡ true → Above nodes n a
    go true same ih g = parent (subst (λ q. parent_of nodes n ≡ Some q) (eqb-true p a same) e)
    go false same ih g = higher e (ih g)

not_true : (b : Bool) → (b ≡ true → ⊥) → b ≡ false
not_true true h = absurd (h refl)
not_true false h = refl

-- no node stands on the way up from its parent, however long
pub not_above : (nodes : List Node) (n k : ℕ) → Rooted nodes n → has n (upward k nodes (parent_of nodes n)) ≡ false
not_above nodes n k r = not_true _ (λ h. no_loop nodes n r (above_of nodes k n n (parent_of nodes n) refl h))

pub tree_is : (nodes : List Node) → ((n : ℕ) → Rooted nodes n) → IsTree nodes
tree_is nodes rooted n p e = ap (λ o. has n (upward (length nodes) nodes o)) (sym e) ∙ not_above nodes n (length nodes) (rooted n)

-- ---- the way has an end

pub ended_or_full : (nodes : List Node) (most : ℕ) (o : Option ℕ) → (upward (suc most) nodes o ≡ upward most nodes o) ⊎ (length (upward (suc most) nodes o) ≡ suc most)
ended_or_full nodes zero None = inl refl
ended_or_full nodes zero (Some n) = inr refl
ended_or_full nodes (suc most) None = inl refl
ended_or_full nodes (suc most) (Some n) = elim (ended_or_full nodes most (parent_of nodes n)) [ inl e ↦ inl (ap (λ r. n ∷ r) e) | inr e ↦ inr (ap suc e) ]

either : (a b c : Bool) → (a || b) ≡ true → (a ≡ true → c ≡ true) → (b ≡ true → c ≡ true) → c ≡ true
either true b c e f g = f refl
either false b c e f g = g e

or_true : (a b : Bool) → b ≡ true → (a || b) ≡ true
or_true true b e = refl
or_true false b e = e

-- who stands on a way stands on a longer one
pub stays_up : (nodes : List Node) (n most more : ℕ) (o : Option ℕ) → most ≤ more → has n (upward most nodes o) ≡ true → has n (upward more nodes o) ≡ true
stays_up nodes n zero more o le h = absurd cc
stays_up nodes n (suc most) more None le h = absurd cc
stays_up nodes n (suc most) zero (Some k) le h = absurd (omega (arith, le))
stays_up nodes n (suc most) (suc more) (Some k) le h =
    either (k == n) (has n (upward most nodes (parent_of nodes k))) (k == n || has n (upward more nodes (parent_of nodes k))) h
    (λ e. ap (λ b. b || has n (upward more nodes (parent_of nodes k))) e)
    (λ e. or_true (k == n) (has n (upward more nodes (parent_of nodes k))) (stays_up nodes n most more (parent_of nodes k) (omega (arith, le)) e))

turned : (n : ℕ) (ks : List ℕ) → list_any (nat_eq n) ks ≡ has n ks
turned n [] = refl
turned n (k ∷ ks) = ap (λ b. b || list_any (nat_eq n) ks) (nat_eq_equiv.symm n k) ∙ ap (λ b. (k == n) || b) (turned n ks)

none_of : (n : ℕ) (ks : List ℕ) → list_any (nat_eq n) ks ≡ false → AllByRecursion (λ y. nat_eq n y ≡ false) ks
none_of n [] e = tt
none_of n (k ∷ ks) e = let both = neither (nat_eq n k) (list_any (nat_eq n) ks) e in (both.0, none_of n ks both.1)
  where
    neither : (a b : Bool) → (a || b) ≡ false → (a ≡ false) × (b ≡ false)
    neither true b h = absurd cc
    neither false b h = (refl, h)

pub distinct_up : (nodes : List Node) → ((n : ℕ) → Rooted nodes n) → (most : ℕ) (o : Option ℕ) → IsDistinct nat_eq (upward most nodes o)
unfolding IsDistinct
distinct_up nodes rooted zero o = tt
distinct_up nodes rooted (suc most) None = tt
distinct_up nodes rooted (suc most) (Some n) =
    IsDistinct-cons nat_eq n (upward most nodes (parent_of nodes n)) (none_of n (upward most nodes (parent_of nodes n)) (turned n (upward most nodes (parent_of nodes n)) ∙ not_above nodes n most (rooted n)))
    (distinct_up nodes rooted most (parent_of nodes n))

pub parents_are_nodes : (nodes : List Node) → IsFamily nodes → (n : ℕ) (o : Option ℕ) → parent_of nodes n ≡ o → ForSome o (IsNode nodes)
parents_are_nodes nodes family n o e = λ p h. parent_is_node nodes family n p (e ∙ h)

nodes_up : (nodes : List Node) → IsFamily nodes → (most : ℕ) (o : Option ℕ) → ForSome o (IsNode nodes) → (q : ℕ) → has q (upward most nodes o) ≡ true → IsNode nodes q
nodes_up nodes family zero o node q h = absurd cc
nodes_up nodes family (suc most) None node q h = absurd cc
nodes_up nodes family (suc most) (Some n) node q h = choose (n == q) refl (nodes_up nodes family most (parent_of nodes n) (parents_are_nodes nodes family n (parent_of nodes n) refl) q) h
  where
    choose : (b : Bool) → (n == q) ≡ b → (has q (upward most nodes (parent_of nodes n)) ≡ true → IsNode nodes q) → (b || has q (upward most nodes (parent_of nodes n))) ≡ true → IsNode nodes q
    choose true e above g = subst (IsNode nodes) (eqb-true n q e) (node n refl)
    choose false e above g = above g

-- no way has more nodes than there are
never_full : (nodes : List Node) → IsFamily nodes → ((n : ℕ) → Rooted nodes n) → (o : Option ℕ) → ForSome o (IsNode nodes) → length (upward (suc (length nodes)) nodes o) ≡ suc (length nodes) → ⊥
never_full nodes family rooted o node full =
    let way : List ℕ = upward (suc (length nodes)) nodes o in
    let none : list_any (nat_eq 0) way ≡ false = turned 0 way ∙ not_true (has 0 way) (λ h. let is = nodes_up nodes family (suc (length nodes)) o node 0 h in omega (arith, is.from)) in
    let distinct = IsDistinct-cons nat_eq 0 way (none_of 0 way none) (distinct_up nodes rooted (suc (length nodes)) o) in
    let small : length (0 ∷ way) ≤ suc (length nodes) = length-le_from_distinct_below (0 ∷ way) (suc (length nodes)) distinct within in
    omega (arith, small, full)
  where
    within : (q : ℕ) → list_any (nat_eq q) (0 ∷ upward (suc (length nodes)) nodes o) ≡ true → q < suc (length nodes)
    within q h = choose (q == 0) refl h
      where
        choose : (b : Bool) → (q == 0) ≡ b → (b || list_any (nat_eq q) (upward (suc (length nodes)) nodes o)) ≡ true → q < suc (length nodes)
        choose true e g = let zero_is : q ≡ 0 = eqb-true q 0 e in omega arith
        choose false e g = let is = nodes_up nodes family (suc (length nodes)) o node q (sym (turned q (upward (suc (length nodes)) nodes o)) ∙ g) in omega (arith, is.to)

pub way_ends : (nodes : List Node) → IsFamily nodes → ((n : ℕ) → Rooted nodes n) → (o : Option ℕ) → ForSome o (IsNode nodes) → upward (suc (length nodes)) nodes o ≡ upward (length nodes) nodes o
way_ends nodes family rooted o node = elim (ended_or_full nodes (length nodes) o) [ inl e ↦ e | inr e ↦ absurd (never_full nodes family rooted o node e) ]

nothing_up : (k : ℕ) (nodes : List Node) → upward k nodes None ≡ []
nothing_up zero nodes = refl
nothing_up (suc k) nodes = refl

-- a longer bound adds nothing
longer : (nodes : List Node) → IsFamily nodes → ((n : ℕ) → Rooted nodes n) → (more : ℕ) (o : Option ℕ) → ForSome o (IsNode nodes) → upward (more + length nodes) nodes o ≡ upward (length nodes) nodes o
longer nodes family rooted zero o node = let same : 0 + length nodes ≡ length nodes = omega arith in ap (λ k. upward k nodes o) same
longer nodes family rooted (suc more) None node = nothing_up (suc more + length nodes) nodes ∙ sym (nothing_up (length nodes) nodes)
longer nodes family rooted (suc more) (Some n) node =
    let same : suc more + length nodes ≡ suc (more + length nodes) = omega arith in
    ap (λ k. upward k nodes (Some n)) same
    ∙ ap (λ l. n ∷ l) (longer nodes family rooted more (parent_of nodes n) (parents_are_nodes nodes family n (parent_of nodes n) refl))
    ∙ way_ends nodes family rooted (Some n) node

-- who doesn't stand among a node and its ancestors stands on no way up from there
pub clear_up : (nodes : List Node) → IsFamily nodes → ((n : ℕ) → Rooted nodes n) → (c n : ℕ) → IsNode nodes n → has c (ancestry nodes n) ≡ false → (k : ℕ) → has c (upward k nodes (Some n)) ≡ false
clear_up nodes family rooted c n node clear k = not_true _ (λ h.
    let far = stays_up nodes c k (k + length nodes) (Some n) (omega arith) h in
    let same = longer nodes family rooted k (Some n) (λ q e. subst (IsNode nodes) (some_same e) node) in
    let there : has c (ancestry nodes n) ≡ true = ap (has c) (sym same) ∙ far in
    cc)

-- ---- parents that change

pub same_parents : (before after : List Node) → ((n : ℕ) → parent_of after n ≡ parent_of before n) → (n : ℕ) → Rooted before n → Rooted after n
same_parents before after same n (top e) = top (same n ∙ e)
same_parents before after same n (below {p = p} e r) = below (same n ∙ e) (same_parents before after same p r)

left_false : (a b : Bool) → (a || b) ≡ false → a ≡ false
left_false true b e = e
left_false false b e = refl

right_false : (a b : Bool) → (a || b) ≡ false → b ≡ false
right_false true b e = absurd cc
right_false false b e = e

differs : (n c : ℕ) → (n == c) ≡ false → c ≢ n
differs n c e same = let one : (n == c) ≡ true = eq-eqb n c (sym same) in cc

-- a node on whose way up the changed one doesn't stand
apart : (before after : List Node) (c : ℕ) → ((m : ℕ) → c ≢ m → parent_of after m ≡ parent_of before m) → (n : ℕ) → Rooted before n → ((k : ℕ) → has c (upward k before (Some n)) ≡ false) → Rooted after n
apart before after c same n (top e) clear = top (same n (differs n c (left_false (n == c) false (clear 1))) ∙ e)
apart before after c same n (below {p = p} e r) clear =
    below (same n (differs n c (left_false (n == c) false (clear 1))) ∙ e)
    (apart before after c same p r (λ k. ap (λ o. has c (upward k before o)) (sym e) ∙ right_false (n == c) (has c (upward k before (parent_of before n))) (clear (suc k))))

-- one node gets a parent that is rooted, or none
pub moved_rooted : (before after : List Node) (c : ℕ) → ((m : ℕ) → c ≢ m → parent_of after m ≡ parent_of before m) → Rooted after c → (n : ℕ) → Rooted before n → Rooted after n
moved_rooted before after c same here n (top e) = go (same_or c n)
  where
    go : (c ≡ n) ⊎ ((c ≢ n) × ((c == n) ≡ false)) → Rooted after n
    go (inl is) = subst (Rooted after) is here
    go (inr ne) = top (same n ne.0 ∙ e)
moved_rooted before after c same here n (below {p = p} e r) = go (moved_rooted before after c same here p r) (same_or c n)
  where
    go : Rooted after p → (c ≡ n) ⊎ ((c ≢ n) × ((c == n) ≡ false)) → Rooted after n
    go up (inl is) = subst (Rooted after) is here
    go up (inr ne) = below (same n ne.0 ∙ e) up

pub stood_rooted : (before after : List Node) → IsFamily before → ((n : ℕ) → Rooted before n) → (n c : ℕ) → IsNode before n → has c (ancestry before n) ≡ false → parent_of after c ≡ Some n → ((m : ℕ) → c ≢ m → parent_of after m ≡ parent_of before m) → (m : ℕ) → Rooted after m
stood_rooted before after family rooted n c node clear is same m = moved_rooted before after c same (below is (apart before after c same n (rooted n) (clear_up before family rooted c n node clear))) m (rooted m)
