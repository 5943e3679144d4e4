-- Rows that stand for kinds, along bases.
use Rattle.std.proofs.Common.{◌≡◌, ℕ, zero, suc, ◌+◌, ◌-◌, ◌≤◌, Bool, true, false, cond, List, [], ◌∷◌, Option, Some, None, length, map, refl, sym, ap, arith, subst}
use Rattle.std.specs.Prelude.{slice_get}
use Rattle.std.specs.Str.{bytes_eq}
use Rattle.folder_rules.specs.declared.component.PathedComponent.{PathedComponent}
use Rattle.folder_rules.specs.Kinds as K
use Rattle.folder_rules.specs.Kinds.{Kind, kind_named, ancestors}
use Rattle.folder_rules.specs.Names.{place_from, place_of}
use Rattle.folder_rules.specs.Scripts.{Source}
use Rattle.script_faults.specs.Rows.{base_place, Each}
use Rattle.script_faults.proofs.KindRows.{each_length}
use Rattle.kind_tables.specs.declared.rows.KindRow.{KindRow}
use Rattle.kind_tables.specs.Rows.{row_at, row_then, rows_from, IsRow}

-- ---- the row and the kind of a name

module _ (sources : List Source) (components : List PathedComponent) (names : List (List ℕ)) where
  abbrev pub Stand : Option KindRow → Option Kind → Type 0
  Stand None None = Unit {0}
  Stand (Some row) (Some kind) = IsRow sources components names row kind
  Stand _ _ = ⊥

  -- the row at a place, where the first row has the place n
  abbrev row_behind : ℕ → List KindRow → Option ℕ → Option KindRow
  row_behind n rows None = None
  row_behind n rows (Some place) = slice_get rows (place - n)

  at_least : (n : ℕ) (xs : List (List ℕ)) (name : List ℕ) (place : ℕ) → place_from n xs name ≡ Some place → n ≤ place
  at_least n [] name place e = absurd cc
  at_least n (x ∷ xs) name place e = go (bytes_eq x name) (λ f. at_least (n + 1) xs name place f) e
    where
      go : (b : Bool) → (place_from (n + 1) xs name ≡ Some place → n + 1 ≤ place) → cond b (Some n) (place_from (n + 1) xs name) ≡ Some place → n ≤ place
      go true h e = let same : n ≡ place = cc in omega arith
      go false h e = let m = h e in omega arith

  behind_first : (n : ℕ) (row : KindRow) (rows : List KindRow) (place : Option ℕ) → ((k : ℕ) → place ≡ Some k → n + 1 ≤ k) → row_behind (n + 1) rows place ≡ row_behind n (row ∷ rows) place
  behind_first n row rows None h = refl
  behind_first n row rows (Some k) h = let m = h k refl in let e : k - n ≡ suc (k - (n + 1)) = omega arith in sym (ap (slice_get (row ∷ rows)) e)

  stand : (n : ℕ) (rows : List KindRow) (kinds : List Kind) → Each (IsRow sources components names) rows kinds → (name : List ℕ) → Stand (row_behind n rows (place_from n (map (λ k. k.name) kinds) name)) (kind_named kinds name)
  stand n [] [] e name = tt
  stand n [] (k ∷ ks) e name = absurd e
  stand n (r ∷ rs) [] e name = absurd e
  stand n (r ∷ rs) (k ∷ ks) e name = go (bytes_eq k.name name) (stand (n + 1) rs ks e.1 name)
    where
      go : (b : Bool) → Stand (row_behind (n + 1) rs (place_from (n + 1) (map (λ k. k.name) ks) name)) (kind_named ks name)
          → Stand (row_behind n (r ∷ rs) (cond b (Some n) (place_from (n + 1) (map (λ k. k.name) ks) name))) (cond b (Some k) (kind_named ks name))
      go true h = let z : n - n ≡ 0 = omega arith in subst (λ i. Stand (slice_get (r ∷ rs) i) (Some k)) (sym z) e.0
      go false h = subst (λ o. Stand o (kind_named ks name)) (behind_first n r rs (place_from (n + 1) (map (λ k. k.name) ks) name) (λ i f. at_least (n + 1) (map (λ k. k.name) ks) name i f)) h

  module _ (rows : List KindRow) (kinds : List Kind) (is : names ≡ map (λ k. k.name) kinds) (are : Each (IsRow sources components names) rows kinds) where
    pub stand_at : (name : List ℕ) → Stand (row_at rows (place_of names name)) (kind_named kinds name)
    stand_at name = go (place_of names name) (subst (λ l. Stand (row_behind 0 rows (place_from 0 l name)) (kind_named kinds name)) (sym is) (stand 0 rows kinds are name))
      where
        go : (o : Option ℕ) → Stand (row_behind 0 rows o) (kind_named kinds name) → Stand (row_at rows o) (kind_named kinds name)
        go None h = h
        go (Some k) h = let z : k - 0 ≡ k = omega arith in subst (λ i. Stand (slice_get rows i) (kind_named kinds name)) z h

    -- the rows from one on stand for the kinds from one on
    pub walk_is : (n : ℕ) (from : Option (List ℕ)) → Each (IsRow sources components names) (rows_from n rows (base_place names from)) (ancestors n kinds from)
    walk_is zero from = tt
    walk_is (suc n) None = tt
    walk_is (suc n) (Some from) = step (walk_is n) (row_at rows (place_of names from)) (kind_named kinds from) (stand_at from)
      where
        step : ((base : Option (List ℕ)) → Each (IsRow sources components names) (rows_from n rows (base_place names base)) (ancestors n kinds base)) → (row : Option KindRow) (kind : Option Kind) → Stand row kind → Each (IsRow sources components names) (row_then row (λ r. rows_from n rows r.base)) (K.where_there kind (λ k. k ∷ ancestors n kinds k.base))
        step rest None None s = tt
        step rest None (Some k) s = absurd s
        step rest (Some r) None s = absurd s
        step rest (Some r) (Some k) s = (s, subst (λ o. Each (IsRow sources components names) (rows_from n rows o) (ancestors n kinds k.base)) (sym s.base_is) (rest k.base))

    pub ancestry_is : (kind : List ℕ) → Each (IsRow sources components names) (rows_from (length rows) rows (place_of names kind)) (K.ancestry kinds kind)
    ancestry_is kind = subst (λ n. Each (IsRow sources components names) (rows_from n rows (place_of names kind)) (K.ancestry kinds kind)) (sym (each_length (IsRow sources components names) rows kinds are)) (walk_is (length kinds) (Some kind))
