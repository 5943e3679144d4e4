-- Parents and children stay one another's inverse.
use Rattle.std.proofs.Common.{◌≡◌, ◌≢◌, ℕ, zero, suc, ◌+◌, ◌-◌, ◌<◌, ◌≤◌, Bool, true, false, cond, ◌⊎◌, inl, inr, List, [], ◌∷◌, ◌++◌, Option, Some, None, length, take, drop, refl, sym, ap, subst, ◌∙◌, arith}
use Rattle.std.specs.Prelude.{◌==◌, ◌||◌, nat_eq, slice_get}
use Rattle.std.specs.List.{AllByRecursion, IsDistinct, list_any}
use Rattle.std.proofs.lemmas.Bool.{eqb-true, eq-eqb}
use Rattle.std.proofs.lemmas.Option.{slice_get_within}
use Rattle.std.proofs.lemmas.List.{take-append-drop}
use Rattle.std.proofs.lemmas.Map.Steps.{length-le_from_distinct_below}
use Rattle.node_tree.specs.declared.node.Node.{Node}
use Rattle.node_tree.specs.declared.children.Place.{Place}
use Rattle.node_tree.specs.Nodes.{node_at, IsNode, parent_in, parent_of, children_in, children_of, with_node, with_children, with_parent}
use Rattle.node_tree.specs.Family.{has, without, place_in, with_child, left_parent, left, standing, is, once_where, times, IsFamily}
use Rattle.node_tree.proofs.Places.{length_with, still_node, at_same, at_other, read_with}

-- ---- numbers

pub same_or : (a b : ℕ) → (a ≡ b) ⊎ ((a ≢ b) × ((a == b) ≡ false))
same_or a b = go (a == b) refl
  where
    go : (t : Bool) → (a == b) ≡ t → (a ≡ b) ⊎ ((a ≢ b) × ((a == b) ≡ false))
    go true e = inl (eqb-true a b e)
    go false e = inr ((λ same. let one : (a == b) ≡ true = eq-eqb a b same in cc), e)

pub self : (a : ℕ) → (a == a) ≡ true
self a = eq-eqb a a refl

pub other : (a b : ℕ) → a ≢ b → (a == b) ≡ false
other a b ne = go (a == b) refl
  where
    go : (t : Bool) → (a == b) ≡ t → (a == b) ≡ false
    go true e = absurd (ne (eqb-true a b e))
    go false e = e

-- ---- how often a number stands in a list

times_append : (m : ℕ) (xs ys : List ℕ) → times m (xs ++ ys) ≡ times m xs + times m ys
times_append m [] ys = omega arith
times_append m (x ∷ xs) ys = let ih = times_append m xs ys in omega (arith, ih)

times_with : (place : Place) (c m : ℕ) (ks : List ℕ) → times m (with_child place c ks) ≡ once_where (c == m) + times m ks
times_with place c m ks =
    let at : ℕ = place_in place (length ks) in
    let split = times_append m (take at ks) (c ∷ drop at ks) in
    let whole = times_append m (take at ks) (drop at ks) in
    let all = ap (times m) (take-append-drop at ks) in
    omega (arith, split, whole, all)

times_without_other : (c m : ℕ) → c ≢ m → (ks : List ℕ) → times m (without c ks) ≡ times m ks
times_without_other c m ne [] = refl
times_without_other c m ne (k ∷ ks) = go (times_without_other c m ne ks) (k == c) refl
  where
    go : times m (without c ks) ≡ times m ks → (t : Bool) → (k == c) ≡ t → times m (cond t ks (k ∷ without c ks)) ≡ once_where (k == m) + times m ks
    go ih true e =
        let same : k ≡ c = eqb-true k c e in
        let none : (k == m) ≡ false = other k m (λ f. ne (sym same ∙ f)) in
        let first : once_where (k == m) ≡ 0 = ap once_where none in
        omega arith
    go ih false e = ap (λ n. once_where (k == m) + n) ih

times_without : (c : ℕ) (ks : List ℕ) → times c (without c ks) ≡ times c ks - 1
times_without c [] = refl
times_without c (k ∷ ks) = go (times_without c ks) (k == c) refl
  where
    go : times c (without c ks) ≡ times c ks - 1 → (t : Bool) → (k == c) ≡ t → times c (cond t ks (k ∷ without c ks)) ≡ (once_where (k == c) + times c ks) - 1
    go ih true e =
        let first : once_where (k == c) ≡ 1 = ap once_where e in
        omega arith
    go ih false e =
        let first : once_where (k == c) ≡ 0 = ap once_where e in
        omega arith

none_of : (m : ℕ) (ks : List ℕ) → times m ks ≡ 0 → AllByRecursion (λ k. (m == k) ≡ false) ks
none_of m [] e = tt
none_of m (k ∷ ks) e =
    let rest : times m ks ≡ 0 = omega arith in
    let first : once_where (k == m) ≡ 0 = omega arith in
    (other m k (λ same. let one : once_where (k == m) ≡ 1 = ap once_where (eq-eqb k m (sym same)) in absurd (omega arith)), none_of m ks rest)

distinct : (ks : List ℕ) → ((m : ℕ) → times m ks ≤ 1) → IsDistinct nat_eq ks
unfolding IsDistinct
distinct [] once = tt
distinct (k ∷ ks) once =
    let one = once k in
    let first : once_where (k == k) ≡ 1 = ap once_where (self k) in
    let none : times k ks ≡ 0 = omega (arith, one) in
    (none_of k ks none, distinct ks (λ m. let h = once m in omega (arith, h)))

pub has_times : (m : ℕ) (ks : List ℕ) → has m ks ≡ true → 1 ≤ times m ks
has_times m [] e = absurd cc
has_times m (k ∷ ks) e = go (has_times m ks) (k == m) refl e
  where
    go : (has m ks ≡ true → 1 ≤ times m ks) → (t : Bool) → (k == m) ≡ t → (t || has m ks) ≡ true → 1 ≤ once_where (k == m) + times m ks
    go ih true f g = let first : once_where (k == m) ≡ 1 = ap once_where f in omega arith
    go ih false f g = let rest = ih g in omega (arith, rest)

pub times_has : (m : ℕ) (ks : List ℕ) → 1 ≤ times m ks → has m ks ≡ true
times_has m [] h = absurd (omega arith)
times_has m (k ∷ ks) h = go (times_has m ks) (k == m) refl
  where
    go : (1 ≤ times m ks → has m ks ≡ true) → (t : Bool) → (k == m) ≡ t → (t || has m ks) ≡ true
    go ih true f = refl
    go ih false f =
        let first : once_where (k == m) ≡ 0 = ap once_where f in
        let rest : 1 ≤ times m ks = omega arith in
        ih rest

-- ---- parents

is_some_parent : (p : ℕ) (o : Option ℕ) → 1 ≤ once_where (is p o) → o ≡ Some p
is_some_parent p None h = absurd (omega arith)
is_some_parent p (Some q) h = go (q == p) refl h
  where
    go : (t : Bool) → (q == p) ≡ t → 1 ≤ once_where t → Some q ≡ Some p
    go true e k = ap Some (eqb-true q p e)
    go false e k = absurd (omega arith)

once_most : (t : Bool) → once_where t ≤ 1
once_most true = omega arith
once_most false = omega arith

has_node : (nodes : List Node) (n m : ℕ) → 1 ≤ times m (children_of nodes n) → IsNode nodes n
has_node nodes zero m h = absurd (omega arith)
has_node nodes (suc place) m h = go (slice_get nodes place) refl h
  where
    go : (o : Option Node) → slice_get nodes place ≡ o → 1 ≤ times m (children_in o) → IsNode nodes (suc place)
    go None e k = absurd (omega arith)
    go (Some x) e k =
        let within : place < length nodes = slice_get_within nodes place x e in
        record { from = omega arith; to = omega arith }

parent_node : (nodes : List Node) (n p : ℕ) → parent_of nodes n ≡ Some p → IsNode nodes n
parent_node nodes zero p e = absurd cc
parent_node nodes (suc place) p e = go (slice_get nodes place) refl e
  where
    go : (o : Option Node) → slice_get nodes place ≡ o → parent_in o ≡ Some p → IsNode nodes (suc place)
    go None f k = absurd cc
    go (Some x) f k =
        let within : place < length nodes = slice_get_within nodes place x f in
        record { from = omega arith; to = omega arith }

is_self : (p : ℕ) → once_where (is p (Some p)) ≡ 1
is_self p = ap once_where (self p)

-- a parent is a node
pub parent_is_node : (nodes : List Node) → IsFamily nodes → (n p : ℕ) → parent_of nodes n ≡ Some p → IsNode nodes p
parent_is_node nodes family n p e =
    let one : times n (children_of nodes p) ≡ 1 = family.once p n ∙ ap (λ o. once_where (is p o)) e ∙ is_self p in
    has_node nodes p n (omega arith)

-- a child is a node whose parent is this one
pub child_has_parent : (nodes : List Node) → IsFamily nodes → (p n : ℕ) → has n (children_of nodes p) ≡ true → parent_of nodes n ≡ Some p
child_has_parent nodes family p n h =
    let one = has_times n (children_of nodes p) h in
    let once = family.once p n in
    is_some_parent p (parent_of nodes n) (omega (arith, one, once))

pub child_is_node : (nodes : List Node) → IsFamily nodes → (p n : ℕ) → has n (children_of nodes p) ≡ true → IsNode nodes n
child_is_node nodes family p n h = parent_node nodes n p (child_has_parent nodes family p n h)

pub parent_has_child : (nodes : List Node) → IsFamily nodes → (n p : ℕ) → parent_of nodes n ≡ Some p → has n (children_of nodes p) ≡ true
parent_has_child nodes family n p e =
    let one : times n (children_of nodes p) ≡ 1 = family.once p n ∙ ap (λ o. once_where (is p o)) e ∙ is_self p in
    times_has n (children_of nodes p) (omega arith)

or_right : (t u : Bool) → u ≡ true → (t || u) ≡ true
or_right true u e = refl
or_right false u e = e

any_has : (q : ℕ) (ks : List ℕ) → list_any (nat_eq q) ks ≡ true → has q ks ≡ true
any_has q [] e = e
any_has q (k ∷ ks) e = go (any_has q ks) (nat_eq q k) refl e
  where
    go : (list_any (nat_eq q) ks ≡ true → has q ks ≡ true) → (t : Bool) → nat_eq q k ≡ t → (t || list_any (nat_eq q) ks) ≡ true → ((k == q) || has q ks) ≡ true
    go ih true f g = let turned : (k == q) ≡ true = eq-eqb k q (sym (eqb-true q k f)) in ap (λ b. b || has q ks) turned
    go ih false f g = or_right (k == q) (has q ks) (ih g)

-- no node has more children than there are nodes
pub few_children : (nodes : List Node) → IsFamily nodes → (p : ℕ) → length (children_of nodes p) ≤ suc (length nodes)
few_children nodes family p =
    length-le_from_distinct_below (children_of nodes p) (suc (length nodes))
    (distinct (children_of nodes p) (λ m. let most = once_most (is p (parent_of nodes m)) in let once = family.once p m in omega (arith, most, once)))
    (λ q h. let there = child_is_node nodes family p q (any_has q (children_of nodes p) h) in let to : q ≤ length nodes = there.to in omega arith)

-- ---- a change of one node

pub children_kept : (o : Option ℕ) (nodes : List Node) (n p : ℕ) → children_of (with_node (with_parent o) nodes n) p ≡ children_of nodes p
children_kept o nodes n p = read_with children_in (with_parent o) (λ x. refl) nodes n p

pub parent_kept : (f : List ℕ → List ℕ) (nodes : List Node) (n m : ℕ) → parent_of (with_node (with_children f) nodes n) m ≡ parent_of nodes m
parent_kept f nodes n m = read_with parent_in (with_children f) (λ x. refl) nodes n m

past_none : {A : Type 0} (xs : List A) (i : ℕ) → slice_get xs i ≡ None → length xs ≤ i
past_none [] i e = omega arith
past_none (x ∷ xs) zero e = absurd cc
past_none (x ∷ xs) (suc i) e = let ih : length xs ≤ i = past_none xs i e in omega arith

-- a node is there
pub there : (nodes : List Node) (n : ℕ) → IsNode nodes n → (x : Node) × (node_at nodes n ≡ Some x)
there nodes zero h = absurd (let from : 1 ≤ 0 = h.from in omega arith)
there nodes (suc place) h = go (slice_get nodes place) refl
  where
    go : (o : Option Node) → slice_get nodes place ≡ o → (x : Node) × (slice_get nodes place ≡ Some x)
    go None e = absurd (let to : suc place ≤ length nodes = h.to in let past = past_none nodes place e in omega (arith, past))
    go (Some x) e = (x, e)

pub children_here : (f : List ℕ → List ℕ) (nodes : List Node) (n : ℕ) → IsNode nodes n → children_of (with_node (with_children f) nodes n) n ≡ f (children_of nodes n)
children_here f nodes n h =
    let x = there nodes n h in
    ap children_in (at_same (with_children f) nodes n x.0 x.1) ∙ ap f (sym (ap children_in x.1))

pub children_other : (f : List ℕ → List ℕ) (nodes : List Node) (n p : ℕ) → n ≢ p → children_of (with_node (with_children f) nodes n) p ≡ children_of nodes p
children_other f nodes n p ne = ap children_in (at_other (with_children f) nodes n p ne)

pub parent_here : (o : Option ℕ) (nodes : List Node) (n : ℕ) → IsNode nodes n → parent_of (with_node (with_parent o) nodes n) n ≡ o
parent_here o nodes n h = let x = there nodes n h in ap parent_in (at_same (with_parent o) nodes n x.0 x.1)

pub parent_other : (o : Option ℕ) (nodes : List Node) (n m : ℕ) → n ≢ m → parent_of (with_node (with_parent o) nodes n) m ≡ parent_of nodes m
parent_other o nodes n m ne = ap parent_in (at_other (with_parent o) nodes n m ne)

-- ---- a node that has left its parent

pub record IsLeft (nodes after : List Node) (c : ℕ) : Type 0 where
  pub gone : (p : ℕ) → times c (children_of after p) ≡ 0
  pub others : (p m : ℕ) → c ≢ m → times m (children_of after p) ≡ once_where (is p (parent_of nodes m))
  pub parents : (m : ℕ) → parent_of after m ≡ parent_of nodes m

pub taken_left : (nodes : List Node) → IsFamily nodes → (c q : ℕ) → parent_of nodes c ≡ Some q → IsLeft nodes (with_node (with_children (without c)) nodes q) c
taken_left nodes family c q e =
    record {
      gone = λ p. gone_at p (same_or q p);
      others = λ p m ne. others_at p m ne (same_or q p);
      parents = λ m. parent_kept (without c) nodes q m;
    }
  where
    gone_at : (p : ℕ) → ((q ≡ p) ⊎ ((q ≢ p) × ((q == p) ≡ false))) → times c (children_of (with_node (with_children (without c)) nodes q) p) ≡ 0
    gone_at p (inl same) =
        let here = children_here (without c) nodes q (parent_is_node nodes family c q e) in
        let less = times_without c (children_of nodes q) in
        let once = family.once q c in
        let most = once_most (is q (parent_of nodes c)) in
        subst (λ i. times c (children_of (with_node (with_children (without c)) nodes q) i) ≡ 0) same (ap (times c) here ∙ (omega (arith, less, once, most)))
    gone_at p (inr ne) =
        let once = family.once p c in
        let none : once_where (is p (parent_of nodes c)) ≡ 0 = ap (λ o. once_where (is p o)) e ∙ ap once_where ne.1 in
        ap (times c) (children_other (without c) nodes q p ne.0) ∙ (once ∙ none)

    others_at : (p m : ℕ) → c ≢ m → ((q ≡ p) ⊎ ((q ≢ p) × ((q == p) ≡ false))) → times m (children_of (with_node (with_children (without c)) nodes q) p) ≡ once_where (is p (parent_of nodes m))
    others_at p m ne (inl same) =
        let here = children_here (without c) nodes q (parent_is_node nodes family c q e) in
        subst (λ i. times m (children_of (with_node (with_children (without c)) nodes q) i) ≡ once_where (is i (parent_of nodes m))) same
        (ap (times m) here ∙ times_without_other c m ne (children_of nodes q) ∙ family.once q m)
    others_at p m ne (inr other) = ap (times m) (children_other (without c) nodes q p other.0) ∙ family.once p m

pub left_is : (nodes : List Node) → IsFamily nodes → (c : ℕ) → IsLeft nodes (left nodes c) c
left_is nodes family c = go (parent_of nodes c) refl
  where
    go : (o : Option ℕ) → parent_of nodes c ≡ o → IsLeft nodes (left_parent o c nodes) c
    go None e = record {
      gone = λ p. family.once p c ∙ ap (λ o. once_where (is p o)) e;
      others = λ p m ne. family.once p m;
      parents = λ m. refl;
    }
    go (Some q) e = taken_left nodes family c q e

-- what it takes to have a parent again, or none
record IsJoined (nodes after new : List Node) (c : ℕ) (o : Option ℕ) : Type 0 where
  own : (p : ℕ) → times c (children_of new p) ≡ once_where (is p o)
  others : (p m : ℕ) → c ≢ m → times m (children_of new p) ≡ times m (children_of after p)
  parent : parent_of new c ≡ o
  parents : (m : ℕ) → c ≢ m → parent_of new m ≡ parent_of after m

joined_family : (nodes after new : List Node) (c : ℕ) (o : Option ℕ) → IsLeft nodes after c → IsJoined nodes after new c o → IsFamily new
joined_family nodes after new c o gone joined = record { once = λ p m. go p m (same_or c m) }
  where
    go : (p m : ℕ) → ((c ≡ m) ⊎ ((c ≢ m) × ((c == m) ≡ false))) → times m (children_of new p) ≡ once_where (is p (parent_of new m))
    go p m (inl same) = subst (λ i. times i (children_of new p) ≡ once_where (is p (parent_of new i))) same (joined.own p ∙ ap (λ q. once_where (is p q)) (sym joined.parent))
    go p m (inr ne) = joined.others p m ne.0 ∙ gone.others p m ne.0 ∙ ap (λ q. once_where (is p q)) (sym (joined.parents m ne.0 ∙ gone.parents m))

standing_own : (place : Place) (after : List Node) (n c p : ℕ) → IsNode after n → times c (children_of after p) ≡ 0 → ((n ≡ p) ⊎ ((n ≢ p) × ((n == p) ≡ false))) → times c (children_of (with_node (with_children (with_child place c)) after n) p) ≡ once_where (is p (Some n))
standing_own place after n c p here none (inl same) =
    let more = times_with place c c (children_of after n) in
    let first : once_where (c == c) ≡ 1 = ap once_where (self c) in
    let zero_before : times c (children_of after n) ≡ 0 = ap (λ i. times c (children_of after i)) same ∙ none in
    let one : times c (with_child place c (children_of after n)) ≡ 1 = omega (arith, more, first, zero_before) in
    let read = ap (times c) (children_here (with_child place c) after n here) in
    subst (λ i. times c (children_of (with_node (with_children (with_child place c)) after n) i) ≡ once_where (is i (Some n))) same (read ∙ one ∙ sym (is_self n))
standing_own place after n c p here none (inr ne) = ap (times c) (children_other (with_child place c) after n p ne.0) ∙ none ∙ sym (ap once_where ne.1)

standing_others : (place : Place) (after : List Node) (n c p m : ℕ) → IsNode after n → c ≢ m → ((n ≡ p) ⊎ ((n ≢ p) × ((n == p) ≡ false))) → times m (children_of (with_node (with_children (with_child place c)) after n) p) ≡ times m (children_of after p)
standing_others place after n c p m here ne (inl same) =
    let more = times_with place c m (children_of after n) in
    let first : once_where (c == m) ≡ 0 = ap once_where (other c m ne) in
    let kept : times m (with_child place c (children_of after n)) ≡ times m (children_of after n) = omega (arith, more, first) in
    let read = ap (times m) (children_here (with_child place c) after n here) in
    subst (λ i. times m (children_of (with_node (with_children (with_child place c)) after n) i) ≡ times m (children_of after i)) same (read ∙ kept)
standing_others place after n c p m here ne (inr apart) = ap (times m) (children_other (with_child place c) after n p apart.0)

pub standing_family : (place : Place) (nodes after : List Node) (n c : ℕ) → IsLeft nodes after c → IsNode after n → IsNode after c → IsFamily (standing place after n c)
standing_family place nodes after n c gone here child =
    let put : List Node = with_node (with_children (with_child place c)) after n in
    let still = still_node (with_children (with_child place c)) after n c child in
    joined_family nodes after (standing place after n c) c (Some n) gone (record {
      own = λ p. ap (times c) (children_kept (Some n) put c p) ∙ standing_own place after n c p here (gone.gone p) (same_or n p);
      others = λ p m ne. ap (times m) (children_kept (Some n) put c p) ∙ standing_others place after n c p m here ne (same_or n p);
      parent = parent_here (Some n) put c still;
      parents = λ m ne. parent_other (Some n) put c m ne ∙ parent_kept (with_child place c) after n m;
    })

pub alone_family : (nodes after : List Node) (c : ℕ) → IsLeft nodes after c → IsNode after c → IsFamily (with_node (with_parent None) after c)
alone_family nodes after c gone child =
    joined_family nodes after (with_node (with_parent None) after c) c None gone (record {
      own = λ p. ap (times c) (children_kept None after c p) ∙ gone.gone p;
      others = λ p m ne. ap (times m) (children_kept None after c p);
      parent = parent_here None after c child;
      parents = λ m ne. parent_other None after c m ne;
    })

-- ---- no node more, and none fewer

pub length_left : (nodes : List Node) (c : ℕ) → length (left nodes c) ≡ length nodes
length_left nodes c = go (parent_of nodes c)
  where
    go : (o : Option ℕ) → length (left_parent o c nodes) ≡ length nodes
    go None = refl
    go (Some q) = length_with (with_children (without c)) nodes q
