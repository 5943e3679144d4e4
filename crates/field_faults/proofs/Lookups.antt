-- What stands at the place of a name is what the name finds.
use Rattle.std.proofs.Common.{◌≡◌, ℕ, suc, ◌+◌, ◌-◌, ◌≤◌, Bool, true, false, cond, List, [], ◌∷◌, ◌++◌, Option, Some, None, length, map, refl, sym, ap, arith, subst}
use Rattle.std.specs.Prelude.{slice_get}
use Rattle.std.specs.Str.{bytes_eq}
use Rattle.folder_rules.specs.Names.{place_from, place_of}
use Rattle.field_faults.specs.Rows.{item_at, Each}

-- ---- one more

pub each_more : {A B : Type 0} (R : A → B → Type 0) (xs : List A) (ys : List B) (x : A) (y : B) → Each R xs ys → R x y → Each R (xs ++ x ∷ []) (ys ++ y ∷ [])
each_more R [] [] x y e r = (r, tt)
each_more R [] (z ∷ ys) x y e r = absurd e
each_more R (z ∷ xs) [] x y e r = absurd e
each_more R (w ∷ xs) (z ∷ ys) x y e r = (e.0, each_more R xs ys x y e.1 r)

pub each_length : {A B : Type 0} (R : A → B → Type 0) (xs : List A) (ys : List B) → Each R xs ys → length xs ≡ length ys
each_length R [] [] e = refl
each_length R [] (y ∷ ys) e = absurd e
each_length R (x ∷ xs) [] e = absurd e
each_length R (x ∷ xs) (y ∷ ys) e = ap suc (each_length R xs ys e.1)

-- ---- two lists, of which the second is looked through by name

abbrev pub Stand : {A B : Type 0} → (A → B → Type 0) → Option A → Option B → Type 0
Stand R None None = Unit {0}
Stand R (Some x) (Some y) = R x y
Stand R _ _ = ⊥

-- the item at a place, where the first has the place n
abbrev item_from : {A : Type 0} → ℕ → List A → Option ℕ → Option A
item_from n xs None = None
item_from n xs (Some place) = slice_get xs (place - n)

at_least : (n : ℕ) (names : List (List ℕ)) (name : List ℕ) (place : ℕ) → place_from n names name ≡ Some place → n ≤ place
at_least n [] name place e = absurd cc
at_least n (x ∷ xs) name place e = go (bytes_eq x name) (λ f. at_least (n + 1) xs name place f) e
  where
    go : (b : Bool) → (place_from (n + 1) xs name ≡ Some place → n + 1 ≤ place) → cond b (Some n) (place_from (n + 1) xs name) ≡ Some place → n ≤ place
    go true h e = let same : n ≡ place = cc in omega arith
    go false h e = let m = h e in omega arith

behind_first : {A : Type 0} (n : ℕ) (x : A) (xs : List A) (place : Option ℕ) → ((k : ℕ) → place ≡ Some k → n + 1 ≤ k) → item_from (n + 1) xs place ≡ item_from n (x ∷ xs) place
behind_first n x xs None h = refl
behind_first n x xs (Some k) h = let m = h k refl in let e : k - n ≡ suc (k - (n + 1)) = omega arith in sym (ap (slice_get (x ∷ xs)) e)

module _ {A B : Type 0} (R : A → B → Type 0) (key : B → List ℕ) (named : List B → List ℕ → Option B)
    (named_none : (name : List ℕ) → named [] name ≡ None)
    (named_more : (y : B) (ys : List B) (name : List ℕ) → named (y ∷ ys) name ≡ cond (bytes_eq (key y) name) (Some y) (named ys name)) where
  stand : (n : ℕ) (xs : List A) (ys : List B) → Each R xs ys → (name : List ℕ) → Stand R (item_from n xs (place_from n (map key ys) name)) (named ys name)
  stand n [] [] e name = subst (Stand {A = A} R None) (sym (named_none name)) tt
  stand n [] (y ∷ ys) e name = absurd e
  stand n (x ∷ xs) [] e name = absurd e
  stand n (x ∷ xs) (y ∷ ys) e name = subst (Stand R (item_from n (x ∷ xs) (place_from n (map key (y ∷ ys)) name))) (sym (named_more y ys name)) (go (bytes_eq (key y) name) (stand (n + 1) xs ys e.1 name))
    where
      go : (b : Bool) → Stand R (item_from (n + 1) xs (place_from (n + 1) (map key ys) name)) (named ys name)
          → Stand R (item_from n (x ∷ xs) (cond b (Some n) (place_from (n + 1) (map key ys) name))) (cond b (Some y) (named ys name))
      go true h = let z : n - n ≡ 0 = omega arith in subst (λ i. Stand R (slice_get (x ∷ xs) i) (Some y)) (sym z) e.0
      go false h = subst (λ o. Stand R o (named ys name)) (behind_first n x xs (place_from (n + 1) (map key ys) name) (λ i f. at_least (n + 1) (map key ys) name i f)) h

  pub stand_at : (xs : List A) (ys : List B) → Each R xs ys → (names : List (List ℕ)) → names ≡ map key ys → (name : List ℕ) → Stand R (item_at xs (place_of names name)) (named ys name)
  stand_at xs ys e names is name = go (place_of names name) (subst (λ l. Stand R (item_from 0 xs (place_from 0 l name)) (named ys name)) (sym is) (stand 0 xs ys e name))
    where
      go : (o : Option ℕ) → Stand R (item_from 0 xs o) (named ys name) → Stand R (item_at xs o) (named ys name)
      go None h = h
      go (Some k) h = let z : k - 0 ≡ k = omega arith in subst (λ i. Stand R (slice_get xs i) (named ys name)) z h
