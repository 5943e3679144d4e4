-- Kinds that stand before the components that name them.
use Rattle.std.proofs.Common.{◌≡◌, ℕ, suc, ◌+◌, ◌-◌, ◌<◌, Bool, true, false, cond, ◌||◌, ◌⊎◌, inl, inr, List, [], ◌∷◌, ◌++◌, Some, None, length, map, take, nat_lt, refl, sym, ap, ◌∙◌, subst, arith, IsTrue}
use Rattle.std.specs.Prelude.{slice_get, if◌then◌else◌}
use Rattle.std.specs.List.{Contains}
use Rattle.std.specs.Str.{bytes_eq}
use Rattle.std.proofs.lemmas.Bool.{ltb-true}
use Rattle.std.proofs.lemmas.Slice.Eq.{bytes_eq-Decides}
use Rattle.folder_rules.specs.Kinds.{built_in_names, component_name, kind_names}
use Rattle.folder_rules.specs.KindFaults.{named_kinds}
use Rattle.folder_rules.specs.Names.{is_among, place_from}
use Rattle.folder_rules.specs.declared.component.PathedComponent.{PathedComponent}
use Rattle.component_cycles.proofs.Members.{no_member, first_member, later_member, member_cases, among_member, member_among, given_member}
use Rattle.kind_order.specs.Named.{behind_built_in, component_place, named_of, named_at}
use Rattle.kind_plans.proofs.Filling.{nine_names}
use Rattle.kind_plans.specs.Plans.{components_at}
use Rattle.kind_plans.specs.Standing.{NamedKindsStandBefore}

-- ---- members

member_behind : {A : Type 0} (xs ys : List A) (x : A) → Contains ys x → Contains (xs ++ ys) x
member_behind [] ys x m = m
member_behind (y ∷ xs) ys x m = later_member y x (xs ++ ys) (member_behind xs ys x m)

member_before : {A : Type 0} (xs ys : List A) (x : A) → Contains xs x → Contains (xs ++ ys) x
member_before [] ys x m = absurd (no_member x m)
member_before {A} (y ∷ xs) ys x m = go (λ n. member_before xs ys x n) (member_cases y x xs m)
  where
    go : (Contains xs x → Contains (xs ++ ys) x) → (y ≡ x) ⊎ Contains xs x → Contains (y ∷ (xs ++ ys)) x
    go h (inl e) = subst (Contains (y ∷ (xs ++ ys))) e (first_member y (xs ++ ys))
    go h (inr n) = later_member y x (xs ++ ys) (h n)

member_mapped : {A B : Type 0} (f : A → B) (xs : List A) (x : A) → Contains xs x → Contains (map f xs) (f x)
member_mapped f [] x m = absurd (no_member x m)
member_mapped {A} f (y ∷ xs) x m = go (λ n. member_mapped f xs x n) (member_cases y x xs m)
  where
    go : (Contains xs x → Contains (map f xs) (f x)) → (y ≡ x) ⊎ Contains xs x → Contains (f y ∷ map f xs) (f x)
    go h (inl e) = subst (λ z. Contains (f y ∷ map f xs) (f z)) e (first_member (f y) (map f xs))
    go h (inr n) = later_member (f y) (f x) (map f xs) (h n)

-- ---- where a component stands

behind : (n : ℕ) (bs cs : List (List ℕ)) (name : List ℕ) → is_among bs name ≡ false → place_from n (bs ++ cs) name ≡ place_from (n + length bs) cs name
behind n [] cs name e = ap (λ k. place_from k cs name) (omega arith)
behind n (b ∷ bs) cs name e = go (bytes_eq b name) (λ f. behind (n + 1) bs cs name f) e
  where
    go : (t : Bool) → (is_among bs name ≡ false → place_from (n + 1) (bs ++ cs) name ≡ place_from (n + 1 + length bs) cs name) → (t || is_among bs name) ≡ false → cond t (Some n) (place_from (n + 1) (bs ++ cs) name) ≡ place_from (n + length (b ∷ bs)) cs name
    go true h f = absurd cc
    go false h f = h f ∙ ap (λ k. place_from k cs name) (omega arith)

record Placed (n : ℕ) (cs : List PathedComponent) (name : List ℕ) : Type 0 where
  at : ℕ
  component : PathedComponent
  is : place_from n (map component_name cs) name ≡ Some (n + at)
  there : slice_get cs at ≡ Some component
  named : component_name component ≡ name

placed : (n : ℕ) (cs : List PathedComponent) (name : List ℕ) → is_among (map component_name cs) name ≡ true → Placed n cs name
placed n [] name e = absurd cc
placed n (c ∷ cs) name e = go (bytes_eq (component_name c) name) refl (λ t. placed (n + 1) cs name t) e
  where
    go : (t : Bool) → bytes_eq (component_name c) name ≡ t → (is_among (map component_name cs) name ≡ true → Placed (n + 1) cs name) → (t || is_among (map component_name cs) name) ≡ true → Placed n (c ∷ cs) name
    go true s h f = record {
      at = 0;
      component = c;
      is = ap (λ b. cond b (Some n) (place_from (n + 1) (map component_name cs) name)) s ∙ ap Some (omega arith);
      there = refl;
      named = (bytes_eq-Decides (component_name c) name).0 s;
    }
    go false s h f =
        let p = h f in
        record {
          at = suc p.at;
          component = p.component;
          is = ap (λ b. cond b (Some n) (place_from (n + 1) (map component_name cs) name)) s ∙ p.is ∙ ap Some (omega arith);
          there = p.there;
          named = p.named;
        }

nine_more : (k : ℕ) → behind_built_in (Some (9 + k)) ≡ Some k
nine_more k = go (nat_lt (9 + k) 9) refl
  where
    go : (b : Bool) → nat_lt (9 + k) 9 ≡ b → (if b then None else Some (9 + k - 9)) ≡ Some k
    go true s = let l : 9 + k < 9 = ltb-true (9 + k) 9 s in absurd (omega arith)
    go false s = ap Some (omega arith)

place_is : (cs : List PathedComponent) (name : List ℕ) → is_among built_in_names name ≡ false → (p : Placed 9 cs name) → component_place cs name ≡ Some p.at
place_is cs name e p =
    ap behind_built_in (behind 0 built_in_names (map component_name cs) name e ∙ ap (λ n. place_from n (map component_name cs) name) (ap (λ n. 0 + n) nine_names ∙ omega arith) ∙ p.is)
    ∙ nine_more p.at

among_behind : (bs cs : List (List ℕ)) (name : List ℕ) → is_among bs name ≡ false → is_among (bs ++ cs) name ≡ true → is_among cs name ≡ true
among_behind [] cs name e t = t
among_behind (b ∷ bs) cs name e t = go (bytes_eq b name) (among_behind bs cs name) e t
  where
    go : (x : Bool) → (is_among bs name ≡ false → is_among (bs ++ cs) name ≡ true → is_among cs name ≡ true) → (x || is_among bs name) ≡ false → (x || is_among (bs ++ cs) name) ≡ true → is_among cs name ≡ true
    go true h f g = absurd cc
    go false h f g = h f g

-- ---- the law

stand : NamedKindsStandBefore
stand components order good at place c name there is names known = go (is_among built_in_names name) refl
  where
    before : List PathedComponent
    before = components_at components (take at order)

    go : (b : Bool) → is_among built_in_names name ≡ b → IsTrue (is_among (kind_names before) name)
    go true s = member_among (kind_names before) name (member_before built_in_names (map component_name before) name (among_member built_in_names name s))
    go false s =
        let p = placed 9 components name (among_behind built_in_names (map component_name components) name s known) in
        let named : Contains (named_at components place) p.at =
        subst (λ o. Contains (named_of components o) p.at) (sym is) (given_member (component_place components) (named_kinds c) name p.at names (place_is components name s p)) in
        let earlier = given_member (slice_get components) (take at order) p.at p.component (good.behind at place p.at there named) p.there in
        let listed = subst (Contains (map component_name before)) p.named (member_mapped component_name before p.component earlier) in
        member_among (kind_names before) name (member_behind built_in_names (map component_name before) name listed)

pub stand_before : NamedKindsStandBefore
stand_before = stand
