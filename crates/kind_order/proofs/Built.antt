-- Orders that are built place by place, each behind those that it names.
use Rattle.std.proofs.Common.{◌≡◌, ◌≢◌, ℕ, zero, suc, ◌+◌, ◌<◌, ◌≤◌, Bool, true, false, ◌⊎◌, inl, inr, List, [], ◌∷◌, ◌++◌, fold, length, refl, sym, subst, arith}
use Rattle.std.specs.List.{Contains}
use Rattle.std.proofs.lemmas.List.Elements.{Contains-append_left, Contains-push, Contains-push_cases}
use Rattle.component_cycles.proofs.Members.{no_member, first_member, later_member, member_cases}
use Rattle.component_cycles.proofs.Searches.{same_or_not}
use Rattle.kind_order.specs.Graph.{Leads, at_once, by_way_of, IsWithoutCycle}
use Rattle.kind_order.specs.Order.{is_listed, put, order_of_first}
use Rattle.kind_order.proofs.Listed.{Differ, none_differ, differ_more, listed_member, no_member_of, at_most}
use Rattle.kind_order.proofs.Puts.{put_listed, put_new}

pub data Built (count : ℕ) (named : ℕ → List ℕ) : List ℕ → Type 0 where
  start : Built count named []
  next : {order : List ℕ} {place : ℕ} → Built count named order → place < count → (Contains order place → ⊥) → ((other : ℕ) → Contains (named place) other → Contains order other) → Built count named (order ++ place ∷ [])

-- one more step at the end of a way
pub step_behind : (named : ℕ → List ℕ) (a b c : ℕ) → Leads named a b → Contains (named b) c → Leads named a c
step_behind named a b c (at_once n) last = by_way_of n (at_once last)
step_behind named a b c (by_way_of {next = m} n more) last = by_way_of n (step_behind named m b c more last)

-- a place and all to which it leads were put behind an order
pub record PutOne (count : ℕ) (named : ℕ → List ℕ) (place : ℕ) (order after : List ℕ) : Type 0 where
  pub built : Built count named after
  pub kept : (p : ℕ) → Contains order p → Contains after p
  pub there : Contains after place
  pub newly : (p : ℕ) → Contains after p → Contains order p ⊎ ((place ≡ p) ⊎ Leads named place p)

-- some of the places that a place names, and all to which they lead, were put behind an order
pub record PutSome (count : ℕ) (named : ℕ → List ℕ) (parent : ℕ) (places order after : List ℕ) : Type 0 where
  pub built : Built count named after
  pub kept : (p : ℕ) → Contains order p → Contains after p
  pub there : (p : ℕ) → Contains places p → Contains after p
  pub newly : (p : ℕ) → Contains after p → Contains order p ⊎ Leads named parent p

module _ (count : ℕ) (named : ℕ → List ℕ) where
  one_and_more : (parent q : ℕ) (qs order mid after : List ℕ) → Contains (named parent) q → PutOne count named q order mid → PutSome count named parent qs mid after → PutSome count named parent (q ∷ qs) order after
  one_and_more parent q qs order mid after n one more = record {
    built = more.built;
    kept = λ p m. more.kept p (one.kept p m);
    there = λ p m. there p (member_cases q p qs m);
    newly = λ p m. newly p (more.newly p m);
  }
    where
      there : (p : ℕ) → (q ≡ p) ⊎ Contains qs p → Contains after p
      there p (inl e) = subst (Contains after) e (more.kept q one.there)
      there p (inr m) = more.there p m

      led : (p : ℕ) → Contains order p ⊎ ((q ≡ p) ⊎ Leads named q p) → Contains order p ⊎ Leads named parent p
      led p (inl m) = inl m
      led p (inr (inl e)) = inr (at_once (subst (Contains (named parent)) e n))
      led p (inr (inr l)) = inr (by_way_of n l)

      newly : (p : ℕ) → Contains mid p ⊎ Leads named parent p → Contains order p ⊎ Leads named parent p
      newly p (inl m) = led p (one.newly p m)
      newly p (inr l) = inr l

  put_some : (depth parent : ℕ) → ((order : List ℕ) (q : ℕ) → Built count named order → Contains (named parent) q → PutOne count named q order (put depth named order q))
      → (places order : List ℕ) → Built count named order → ((q : ℕ) → Contains places q → Contains (named parent) q) → PutSome count named parent places order (fold (put depth named) order places)
  put_some depth parent each [] order b inside = record { built = b; kept = λ p m. m; there = λ p m. absurd (no_member p m); newly = λ p m. inl m }
  put_some depth parent each (q ∷ qs) order b inside =
      let n = inside q (first_member q qs) in
      let one = each order q b n in
      one_and_more parent q qs order (put depth named order q) (fold (put depth named) (put depth named order q) qs) n one
      (put_some depth parent each qs (put depth named order q) one.built (λ p m. inside p (later_member q p qs m)))

  module _ (graph : IsWithoutCycle count named) where
    behind_named : (place : ℕ) (order mid : List ℕ) → place < count → (Contains order place → ⊥) → PutSome count named place (named place) order mid → PutOne count named place order (mid ++ place ∷ [])
    behind_named place order mid h new some = record {
      built = next some.built h (λ m. not_yet (some.newly place m)) some.there;
      kept = λ p m. Contains-append_left mid (place ∷ []) p (some.kept p m);
      there = Contains-push mid place;
      newly = λ p m. newly p (Contains-push_cases mid place p m);
    }
      where
        not_yet : Contains order place ⊎ Leads named place place → ⊥
        not_yet (inl m) = new m
        not_yet (inr l) = graph.no_way_back place l

        led : (p : ℕ) → Contains order p ⊎ Leads named place p → Contains order p ⊎ ((place ≡ p) ⊎ Leads named place p)
        led p (inl m) = inl m
        led p (inr l) = inr (inr l)

        newly : (p : ℕ) → Contains mid p ⊎ (place ≡ p) → Contains order p ⊎ ((place ≡ p) ⊎ Leads named place p)
        newly p (inl m) = led p (some.newly p m)
        newly p (inr e) = inr (inl e)

    -- a place is not on a way that leads to it
    not_on_way : (place : ℕ) (way : List ℕ) → ((y : ℕ) → Contains way y → Leads named y place) → Contains way place → ⊥
    not_on_way place way to m = graph.no_way_back place (to place m)

    longer : (place q : ℕ) (way : List ℕ) → ((y : ℕ) → Contains way y → Leads named y place) → Contains (named place) q → (y : ℕ) → Contains (place ∷ way) y → Leads named y q
    longer place q way to n y m = go (member_cases place y way m)
      where
        go : (place ≡ y) ⊎ Contains way y → Leads named y q
        go (inl e) = subst (λ k. Leads named k q) e (at_once n)
        go (inr w) = step_behind named y place q (to y w) n

    below_more : (place : ℕ) (way : List ℕ) → place < count → ((y : ℕ) → Contains way y → y < count) → (y : ℕ) → Contains (place ∷ way) y → y < count
    below_more place way h below y m = go (member_cases place y way m)
      where
        go : (place ≡ y) ⊎ Contains way y → y < count
        go (inl e) = subst (λ k. k < count) e h
        go (inr w) = below y w

    -- a way and what is left of the depth are as long as there are places
    pub put_one : (depth : ℕ) (order : List ℕ) (place : ℕ) (way : List ℕ) → Built count named order → place < count
        → Differ way → ((y : ℕ) → Contains way y → Leads named y place) → ((y : ℕ) → Contains way y → y < count) → count ≤ depth + length way
        → PutOne count named place order (put depth named order place)
    put_one zero order place way b h differ to below deep =
        let most = at_most count (place ∷ way) (differ_more place way (not_on_way place way to) differ) (below_more place way h below) in
        absurd (omega (arith, most))
    put_one (suc d) order place way b h differ to below deep =
        go
        (λ inner q c n. put_one d inner q (place ∷ way) c (graph.inside place q n) (differ_more place way (not_on_way place way to) differ) (longer place q way to n) (below_more place way h below) (omega arith))
        (is_listed order place) refl
      where
        go : ((inner : List ℕ) (q : ℕ) → Built count named inner → Contains (named place) q → PutOne count named q inner (put d named inner q)) → (t : Bool) → is_listed order place ≡ t → PutOne count named place order (put (suc d) named order place)
        go deeper true e = subst (PutOne count named place order) (sym (put_listed named (suc d) order place e)) (record { built = b; kept = λ p m. m; there = listed_member order place e; newly = λ p m. inl m })
        go deeper false e = subst (PutOne count named place order) (sym (put_new named d order place e))
            (behind_named place order (fold (put d named) order (named place)) h (no_member_of order place e) (put_some d place deeper (named place) order b (λ q m. m)))

    eq_or_below : (p m : ℕ) → p ≤ m → (m ≡ p) ⊎ (p < m)
    eq_or_below p m l = go (same_or_not m p)
      where
        go : (m ≡ p) ⊎ (m ≢ p) → (m ≡ p) ⊎ (p < m)
        go (inl e) = inl e
        go (inr n) = inr (omega arith)

    pub record FirstPut (n : ℕ) (order : List ℕ) : Type 0 where
      pub built : Built count named order
      pub all : (p : ℕ) → p < n → Contains order p

    pub first_put : (n : ℕ) → n ≤ count → FirstPut n (order_of_first count named n)
    first_put zero h = record { built = start; all = λ p l. absurd (omega arith) }
    first_put (suc n) h =
        let before = first_put n (omega arith) in
        let order = order_of_first count named n in
        let one = put_one count order n [] before.built (omega arith) none_differ (λ y m. absurd (no_member y m)) (λ y m. absurd (no_member y m)) (omega arith) in
        record { built = one.built; all = λ p l. all p l before one (eq_or_below p n (omega arith)) }
      where
        all : (p : ℕ) → p < suc n → FirstPut n (order_of_first count named n) → PutOne count named n (order_of_first count named n) (put count named (order_of_first count named n) n) → (n ≡ p) ⊎ (p < n) → Contains (put count named (order_of_first count named n) n) p
        all p l before one (inl e) = subst (Contains (put count named (order_of_first count named n) n)) e one.there
        all p l before one (inr k) = one.kept p (before.all p k)
