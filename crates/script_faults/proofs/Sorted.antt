-- Items in order: the first of those that pass a test, and the first when one more comes behind them.
use Rattle.std.proofs.Common.{◌≡◌, Bool, true, false, cond, List, [], ◌∷◌, ◌++◌, Option, Some, None, refl, ap, ◌∙◌, sym}
use Rattle.std.specs.Cmp.{IsStrictWeakOrder}
use Rattle.std.specs.Prelude.{filter}
use Rattle.folder_rules.specs.Faults.{first, put_in_order, in_order}
use Rattle.script_faults.proofs.Earliest.{sooner, first_in_order}

-- none of these stands before an item
abbrev NoneBefore : {A : Type 0} → (A → A → Bool) → A → List A → Type 0
NoneBefore earlier y [] = Unit {0}
NoneBefore earlier y (z ∷ zs) = (earlier z y ≡ false) × NoneBefore earlier y zs

abbrev Sorted : {A : Type 0} → (A → A → Bool) → List A → Type 0
Sorted earlier [] = Unit {0}
Sorted earlier (y ∷ ys) = NoneBefore earlier y ys × Sorted earlier ys

-- the first so far, or the item where it stands earlier
abbrev pub latest : {A : Type 0} → (A → A → Bool) → Option A → A → A
latest earlier None x = x
latest earlier (Some y) x = cond (earlier x y) x y

module _ {A : Type 0} (earlier : A → A → Bool) (order : IsStrictWeakOrder earlier) where
  none_put : (x y : A) (zs : List A) → earlier x y ≡ false → NoneBefore earlier y zs → NoneBefore earlier y (put_in_order earlier x zs)
  none_put x y [] h n = (h, tt)
  none_put x y (z ∷ zs) h n = go (earlier z x) (none_put x y zs h n.1)
    where
      go : (b : Bool) → NoneBefore earlier y (put_in_order earlier x zs) → NoneBefore earlier y (cond b (z ∷ put_in_order earlier x zs) (x ∷ (z ∷ zs)))
      go true rest = (n.0, rest)
      go false rest = (h, n)

  none_chain : (x y : A) (zs : List A) → NoneBefore earlier y zs → earlier y x ≡ false → NoneBefore earlier x zs
  none_chain x y [] n h = tt
  none_chain x y (z ∷ zs) n h = (order.chain z y x n.0 h, none_chain x y zs n.1 h)

  sorted_put : (x : A) (ys : List A) → Sorted earlier ys → Sorted earlier (put_in_order earlier x ys)
  sorted_put x [] s = (tt, tt)
  sorted_put x (y ∷ ys) s = go (earlier y x) refl (sorted_put x ys s.1)
    where
      go : (b : Bool) → earlier y x ≡ b → Sorted earlier (put_in_order earlier x ys) → Sorted earlier (cond b (y ∷ put_in_order earlier x ys) (x ∷ (y ∷ ys)))
      go true h rest = (none_put x y ys (order.one_way y x h) s.0, rest)
      go false h rest = ((h, none_chain x y ys s.0 h), s)

  sorted : (xs : List A) → Sorted earlier (in_order earlier xs)
  sorted [] = tt
  sorted (x ∷ xs) = sorted_put x (in_order earlier xs) (sorted xs)

  -- ---- the first of those that pass a test

  stays_first : (test : A → Bool) (x : A) (ys : List A) → NoneBefore earlier x ys → sooner earlier x (first (filter test ys)) ≡ x
  stays_first test x [] n = refl
  stays_first test x (y ∷ ys) n = go (test y) (stays_first test x ys n.1)
    where
      go : (b : Bool) → sooner earlier x (first (filter test ys)) ≡ x → sooner earlier x (first (cond b (y ∷ filter test ys) (filter test ys))) ≡ x
      go true rest = ap (λ b. cond b y x) n.0
      go false rest = rest

  passing_put : (test : A → Bool) (x : A) (ys : List A) → Sorted earlier ys
      → first (filter test (put_in_order earlier x ys)) ≡ cond (test x) (Some (sooner earlier x (first (filter test ys)))) (first (filter test ys))
  passing_put test x [] s = go (test x)
    where
      go : (b : Bool) → first (cond b (x ∷ []) []) ≡ cond b (Some x) None
      go true = refl
      go false = refl
  passing_put test x (y ∷ ys) s = go (earlier y x) refl (passing_put test x ys s.1)
    where
      kept : (c d : Bool) → earlier y x ≡ true → first (filter test (put_in_order earlier x ys)) ≡ cond d (Some (sooner earlier x (first (filter test ys)))) (first (filter test ys))
          → first (cond c (y ∷ filter test (put_in_order earlier x ys)) (filter test (put_in_order earlier x ys)))
          ≡ cond d (Some (sooner earlier x (first (cond c (y ∷ filter test ys) (filter test ys))))) (first (cond c (y ∷ filter test ys) (filter test ys)))
      kept true true h e = ap (λ b. Some (cond b y x)) (sym h)
      kept true false h e = refl
      kept false d h e = e

      put : (c d : Bool) → earlier y x ≡ false
          → first (cond d (x ∷ cond c (y ∷ filter test ys) (filter test ys)) (cond c (y ∷ filter test ys) (filter test ys)))
          ≡ cond d (Some (sooner earlier x (first (cond c (y ∷ filter test ys) (filter test ys))))) (first (cond c (y ∷ filter test ys) (filter test ys)))
      put true true h = ap (λ b. Some (cond b y x)) (sym h)
      put false true h = ap Some (sym (stays_first test x ys (none_chain x y ys s.0 h)))
      put c false h = refl

      go : (b : Bool) → earlier y x ≡ b → first (filter test (put_in_order earlier x ys)) ≡ cond (test x) (Some (sooner earlier x (first (filter test ys)))) (first (filter test ys))
          → first (filter test (cond b (y ∷ put_in_order earlier x ys) (x ∷ (y ∷ ys)))) ≡ cond (test x) (Some (sooner earlier x (first (filter test (y ∷ ys))))) (first (filter test (y ∷ ys)))
      go true h rest = kept (test y) (test x) h rest
      go false h rest = put (test y) (test x) h

  pub passing_first : (test : A → Bool) (xs : List A) → first (filter test (in_order earlier xs)) ≡ first (in_order earlier (filter test xs))
  passing_first test [] = refl
  passing_first test (x ∷ xs) =
      passing_put test x (in_order earlier xs) (sorted xs)
      ∙ ap (λ o. cond (test x) (Some (sooner earlier x o)) o) (passing_first test xs)
      ∙ go (test x)
    where
      go : (b : Bool) → cond b (Some (sooner earlier x (first (in_order earlier (filter test xs))))) (first (in_order earlier (filter test xs))) ≡ first (in_order earlier (cond b (x ∷ filter test xs) (filter test xs)))
      go true = sym (first_in_order earlier x (filter test xs))
      go false = refl

  -- ---- one more at the end

  both : (y x : A) (o : Option A) → sooner earlier y (Some (latest earlier o x)) ≡ latest earlier (Some (sooner earlier y o)) x
  both y x None = refl
  both y x (Some h) = go (earlier x h) (earlier h y) refl refl
    where
      go : (a b : Bool) → earlier x h ≡ a → earlier h y ≡ b → sooner earlier y (Some (cond a x h)) ≡ latest earlier (Some (cond b h y)) x
      go true true p q = before (earlier x y) refl
        where
          before : (c : Bool) → earlier x y ≡ c → cond (earlier x y) x y ≡ cond (earlier x h) x h
          before true r = ap (λ v. cond v x y) r ∙ ap (λ v. cond v x h) (sym p)
          before false r = let wrong : true ≡ false = sym p ∙ order.chain x y h r (order.one_way h y q) in absurd (cc)
      go true false p q = refl
      go false true p q = ap (λ v. cond v h y) q ∙ ap (λ v. cond v x h) (sym p)
      go false false p q = ap (λ v. cond v h y) q ∙ ap (λ v. cond v x y) (sym (order.chain x h y p q))

  pub first_behind_more : (xs : List A) (x : A) → first (in_order earlier (xs ++ x ∷ [])) ≡ Some (latest earlier (first (in_order earlier xs)) x)
  first_behind_more [] x = refl
  first_behind_more (y ∷ ys) x =
      first_in_order earlier y (ys ++ x ∷ [])
      ∙ ap (λ o. Some (sooner earlier y o)) (first_behind_more ys x)
      ∙ ap Some (both y x (first (in_order earlier ys)))
      ∙ ap (λ o. Some (latest earlier o x)) (sym (first_in_order earlier y ys))
