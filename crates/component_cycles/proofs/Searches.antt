-- A search with marks finds what a start leads to.
use Rattle.std.proofs.Common.{◌≡◌, ◌≢◌, ℕ, zero, suc, ◌+◌, ◌<◌, ◌≤◌, ◌==◌, Bool, true, false, not, cond, ◌⊎◌, inl, inr, List, [], ◌∷◌, ◌++◌, Option, Some, None, length, get_or, refl, sym, ap, ◌∙◌, arith, subst, length-append}
use Rattle.std.specs.Prelude.{slice_get}
use Rattle.std.specs.Bool.{MatchBool}
use Rattle.std.specs.List.{Contains, count_by}
use Rattle.std.proofs.Math.ListN.{set, replicate}
use Rattle.std.proofs.lemmas.List.{get_or-set_same, get_or-set_other, get_or-replicate, length-set, length-replicate}
use Rattle.std.proofs.lemmas.List.Elements.{Contains-append_left, Contains-append_right, Contains-append_cases, Contains-push, Contains-push_cases}
use Rattle.std.proofs.lemmas.List.Sums.{sum_by-set}
use Rattle.std.proofs.lemmas.Bool.Decides.{Decides-eqb}
use Rattle.component_cycles.specs.declared.graph.NamedKinds.{NamedKinds}
use Rattle.component_cycles.specs.Graph.{named_at, places_in, Names, Leads, at_once, by_way_of}
use Rattle.component_cycles.specs.Search.{IsMarked, unmarked, Marks, IsReached}
use Rattle.component_cycles.proofs.Members.{no_member, first_member, only_member, member_cases}

-- ---- marks

pub no_marks : (marks : List Bool) (waiting : List ℕ) → Marks [] marks waiting marks waiting
no_marks marks waiting = record {
  size = refl;
  kept = λ p m. m;
  all = λ p m l. absurd (no_member p m);
  only = λ p m. inl m;
  waits = λ p m. m;
  newly = λ p m. inl m;
  waits_marked = λ p m. inl m;
  left = refl;
}

-- a place past the end, or one that is marked
pub mark_kept : (place : ℕ) (marks : List Bool) (waiting : List ℕ) → (place < length marks → IsMarked marks place) → Marks (place ∷ []) marks waiting marks waiting
mark_kept place marks waiting h = record {
  size = refl;
  kept = λ p m. m;
  all = λ p m l. let e = only_member place p m in subst (IsMarked marks) e (h (subst (λ k. k < length marks) (sym e) l));
  only = λ p m. inl m;
  waits = λ p m. m;
  newly = λ p m. inl m;
  waits_marked = λ p m. inl m;
  left = refl;
}

pub same_or_not : (a b : ℕ) → (a ≡ b) ⊎ (a ≢ b)
same_or_not a b = go (a == b) refl
  where
    go : (t : Bool) → (a == b) ≡ t → (a ≡ b) ⊎ (a ≢ b)
    go true e = inl ((Decides-eqb a b).0 e)
    go false e = inr (λ s. let t : (a == b) ≡ true = (Decides-eqb a b).1 s in absurd cc)

abbrev weight : Bool → ℕ
weight b = cond (not b) 1 0

module _ (place : ℕ) (marks : List Bool) (waiting : List ℕ) (there : place < length marks) (off : get_or marks place false ≡ false) where
  on : (p : ℕ) → p ≡ place → IsMarked (set marks place true) p
  on p e = subst (λ k. get_or (set marks place true) k false ≡ true) (sym e) (get_or-set_same marks place true false there)

  as_before : (p : ℕ) → p ≢ place → get_or (set marks place true) p false ≡ get_or marks p false
  as_before p n = get_or-set_other marks place p true false n

  -- a place that was not marked
  pub mark_new : Marks (place ∷ []) marks waiting (set marks place true) (waiting ++ place ∷ [])
  mark_new = record {
    size = length-set marks place true;
    kept = λ p m. kept p m (same_or_not p place);
    all = λ p m l. on p (sym (only_member place p m));
    only = λ p m. only p m (same_or_not p place);
    waits = λ p m. Contains-append_left waiting (place ∷ []) p m;
    newly = λ p m. newly p m (same_or_not p place);
    waits_marked = λ p m. at p (Contains-push_cases waiting place p m);
    left = let s = sum_by-set weight marks place true false there in
        let z = ap weight off in
        let l = length-append waiting (place ∷ []) in
        omega (arith, s, z, l);
  }
    where
      kept : (p : ℕ) → IsMarked marks p → (p ≡ place) ⊎ (p ≢ place) → IsMarked (set marks place true) p
      kept p m (inl e) = on p e
      kept p m (inr n) = as_before p n ∙ m

      only : (p : ℕ) → IsMarked (set marks place true) p → (p ≡ place) ⊎ (p ≢ place) → IsMarked marks p ⊎ Contains (place ∷ []) p
      only p m (inl e) = inr (subst (Contains (place ∷ [])) (sym e) (first_member place []))
      only p m (inr n) = inl (sym (as_before p n) ∙ m)

      newly : (p : ℕ) → IsMarked (set marks place true) p → (p ≡ place) ⊎ (p ≢ place) → IsMarked marks p ⊎ Contains (waiting ++ place ∷ []) p
      newly p m (inl e) = inr (subst (Contains (waiting ++ place ∷ [])) (sym e) (Contains-push waiting place))
      newly p m (inr n) = inl (sym (as_before p n) ∙ m)

      at : (p : ℕ) → Contains waiting p ⊎ (place ≡ p) → Contains waiting p ⊎ IsMarked (set marks place true) p
      at p (inl m) = inl m
      at p (inr e) = inr (on p (sym e))

-- one place after another
pub marks_more : (xs ys : List ℕ) (m0 : List Bool) (t0 : List ℕ) (m1 : List Bool) (t1 : List ℕ) (m2 : List Bool) (t2 : List ℕ) → Marks xs m0 t0 m1 t1 → Marks ys m1 t1 m2 t2 → Marks (xs ++ ys) m0 t0 m2 t2
marks_more xs ys m0 t0 m1 t1 m2 t2 a b = record {
  size = b.size ∙ a.size;
  kept = λ p m. b.kept p (a.kept p m);
  all = λ p m l. all p l (Contains-append_cases xs ys p m);
  only = λ p m. only p (b.only p m);
  waits = λ p m. b.waits p (a.waits p m);
  newly = λ p m. newly p (b.newly p m);
  waits_marked = λ p m. at p (b.waits_marked p m);
  left = b.left ∙ a.left;
}
  where
    all : (p : ℕ) → p < length m0 → Contains xs p ⊎ Contains ys p → IsMarked m2 p
    all p l (inl m) = b.kept p (a.all p m l)
    all p l (inr m) = b.all p m (subst (λ k. p < k) (sym a.size) l)

    only_left : (p : ℕ) → IsMarked m0 p ⊎ Contains xs p → IsMarked m0 p ⊎ Contains (xs ++ ys) p
    only_left p (inl m) = inl m
    only_left p (inr m) = inr (Contains-append_left xs ys p m)

    only : (p : ℕ) → IsMarked m1 p ⊎ Contains ys p → IsMarked m0 p ⊎ Contains (xs ++ ys) p
    only p (inl m) = only_left p (a.only p m)
    only p (inr m) = inr (Contains-append_right xs ys p m)

    newly_left : (p : ℕ) → IsMarked m0 p ⊎ Contains t1 p → IsMarked m0 p ⊎ Contains t2 p
    newly_left p (inl m) = inl m
    newly_left p (inr m) = inr (b.waits p m)

    newly : (p : ℕ) → IsMarked m1 p ⊎ Contains t2 p → IsMarked m0 p ⊎ Contains t2 p
    newly p (inl m) = newly_left p (a.newly p m)
    newly p (inr m) = inr m

    at_left : (p : ℕ) → Contains t0 p ⊎ IsMarked m1 p → Contains t0 p ⊎ IsMarked m2 p
    at_left p (inl m) = inl m
    at_left p (inr m) = inr (b.kept p m)

    at : (p : ℕ) → Contains t1 p ⊎ IsMarked m2 p → Contains t0 p ⊎ IsMarked m2 p
    at p (inl m) = at_left p (a.waits_marked p m)
    at p (inr m) = inr m

-- ---- the search

-- each kind that was reached waits, or all that it names are marked
pub record IsSearching (graph : List NamedKinds) (start : ℕ) (marks : List Bool) (waiting : List ℕ) : Type 0 where
  pub size : length marks ≡ length graph
  pub only : (place : ℕ) → IsMarked marks place → Leads graph start place
  pub waits : (place : ℕ) → Contains waiting place → (place ≡ start) ⊎ IsMarked marks place
  pub closed : (place : ℕ) → (place ≡ start) ⊎ IsMarked marks place → Contains waiting place ⊎ ((other : ℕ) → Names graph place other → other < length graph → IsMarked marks other)

pub search_begins : (graph : List NamedKinds) (start : ℕ) → IsSearching graph start (replicate (length graph) false) (start ∷ [])
search_begins graph start = record {
  size = length-replicate (length graph) false;
  only = λ p m. absurd (off p m);
  waits = λ p m. inl (sym (only_member start p m));
  closed = λ p r. closed p r;
}
  where
    none : (n p : ℕ) → get_or (replicate n false) p false ≡ false
    none zero p = refl
    none (suc n) zero = refl
    none (suc n) (suc p) = none n p

    off : (p : ℕ) → IsMarked (replicate (length graph) false) p → ⊥
    off p m = let n = none (length graph) p in let t : false ≡ true = sym n ∙ m in absurd cc

    closed : (p : ℕ) → (p ≡ start) ⊎ IsMarked (replicate (length graph) false) p → Contains (start ∷ []) p ⊎ ((other : ℕ) → Names graph p other → other < length graph → IsMarked (replicate (length graph) false) other)
    closed p (inl e) = inl (subst (Contains (start ∷ [])) (sym e) (first_member start []))
    closed p (inr m) = absurd (off p m)

snoc : (graph : List NamedKinds) (a b c : ℕ) → Leads graph a b → Names graph b c → Leads graph a c
snoc graph a b c (at_once n) last = by_way_of n (at_once last)
snoc graph a b c (by_way_of {next = m} n more) last = by_way_of n (snoc graph m b c more last)

module _ (graph : List NamedKinds) (start : ℕ) (m0 : List Bool) (t0 : List ℕ) (place : ℕ) (m1 : List Bool) (t1 : List ℕ)
    (s : IsSearching graph start m0 (t0 ++ place ∷ [])) (r : Marks (named_at graph place) m0 t0 m1 t1) where
  lead : (place ≡ start) ⊎ IsMarked m0 place → (other : ℕ) → Names graph place other → Leads graph start other
  lead (inl e) other n = at_once (subst (λ k. Names graph k other) e n)
  lead (inr m) other n = snoc graph start place other (s.only place m) n

  still : (p : ℕ) → Contains (t0 ++ place ∷ []) p ⊎ ((other : ℕ) → Names graph p other → other < length graph → IsMarked m0 other) → Contains t1 p ⊎ ((other : ℕ) → Names graph p other → other < length graph → IsMarked m1 other)
  still p (inl m) = go (Contains-push_cases t0 place p m)
    where
      go : Contains t0 p ⊎ (place ≡ p) → Contains t1 p ⊎ ((other : ℕ) → Names graph p other → other < length graph → IsMarked m1 other)
      go (inl w) = inl (r.waits p w)
      go (inr e) = inr (λ other n l. r.all other (subst (λ k. Names graph k other) (sym e) n) (subst (λ k. other < k) (sym s.size) l))
  still p (inr f) = inr (λ other n l. r.kept other (f other n l))

  pub search_goes_on : IsSearching graph start m1 t1
  search_goes_on = record {
    size = r.size ∙ s.size;
    only = λ p m. only p (r.only p m);
    waits = λ p m. waits p (r.waits_marked p m);
    closed = λ p h. closed p h;
  }
    where
      only : (p : ℕ) → IsMarked m0 p ⊎ Contains (named_at graph place) p → Leads graph start p
      only p (inl m) = s.only p m
      only p (inr n) = lead (s.waits place (Contains-push t0 place)) p n

      was : (p : ℕ) → (p ≡ start) ⊎ IsMarked m0 p → (p ≡ start) ⊎ IsMarked m1 p
      was p (inl e) = inl e
      was p (inr m) = inr (r.kept p m)

      waits : (p : ℕ) → Contains t0 p ⊎ IsMarked m1 p → (p ≡ start) ⊎ IsMarked m1 p
      waits p (inl m) = was p (s.waits p (Contains-append_left t0 (place ∷ []) p m))
      waits p (inr m) = inr m

      newly : (p : ℕ) → IsMarked m0 p ⊎ Contains t1 p → Contains t1 p ⊎ ((other : ℕ) → Names graph p other → other < length graph → IsMarked m1 other)
      newly p (inl m) = still p (s.closed p (inr m))
      newly p (inr w) = inl w

      closed : (p : ℕ) → (p ≡ start) ⊎ IsMarked m1 p → Contains t1 p ⊎ ((other : ℕ) → Names graph p other → other < length graph → IsMarked m1 other)
      closed p (inl e) = still p (s.closed p (inl e))
      closed p (inr m) = newly p (r.newly p m)

-- a kind that names another is there
pub there : (graph : List NamedKinds) (place other : ℕ) → Names graph place other → place < length graph
there [] place other n = absurd (no_member other n)
there (x ∷ xs) zero other n = omega arith
there (x ∷ xs) (suc k) other n = let l = there xs k other n in omega arith

pub begins : (graph : List NamedKinds) (place other : ℕ) → Leads graph place other → place < length graph
begins graph place other (at_once n) = there graph place other n
begins graph place other (by_way_of n more) = there graph place _ n

pub search_ends : (graph : List NamedKinds) (start : ℕ) (marks : List Bool) → IsSearching graph start marks [] → IsReached graph start marks
search_ends graph start marks s = record { size = s.size; only = s.only; all = λ p l h. all start p (inl refl) l h }
  where
    closed_at : (place : ℕ) → (place ≡ start) ⊎ IsMarked marks place → (other : ℕ) → Names graph place other → other < length graph → IsMarked marks other
    closed_at place r = go (s.closed place r)
      where
        go : Contains [] place ⊎ ((other : ℕ) → Names graph place other → other < length graph → IsMarked marks other) → (other : ℕ) → Names graph place other → other < length graph → IsMarked marks other
        go (inl w) = absurd (no_member place w)
        go (inr f) = f

    all : (place other : ℕ) → (place ≡ start) ⊎ IsMarked marks place → Leads graph place other → other < length graph → IsMarked marks other
    all place other r (at_once n) h = closed_at place r other n h
    all place other r (by_way_of {next = m} n more) h = all m other (inr (closed_at place r m n (begins graph m other more))) more h

pub empty_list : {A : Type 0} (xs : List A) → length xs ≡ 0 → xs ≡ []
empty_list [] e = refl
empty_list (x ∷ xs) e = absurd (omega arith)

-- whether the start is reached from itself
pub start_is_reached : (graph : List NamedKinds) (start : ℕ) (marks : List Bool) → IsReached graph start marks → (b : Bool) → b ≡ get_or marks start false → MatchBool b (Leads graph start start) (Leads graph start start → ⊥)
start_is_reached graph start marks r true is = r.only start (sym is)
start_is_reached graph start marks r false is = λ l. let t : false ≡ true = is ∙ r.all start l (begins graph start start l) in absurd cc
