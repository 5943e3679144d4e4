-- The first of lists that are put together, and what is left of a list in a loop over it.
use Rattle.std.proofs.Common.{◌≡◌, Bool, true, false, ◌||◌, ℕ, zero, suc, ◌+◌, ◌<◌, ◌≤◌, List, [], ◌∷◌, ◌++◌, Option, Some, None, length, take, drop, get_or, map, refl, sym, ap, ◌∙◌, arith, append_assoc, add-one}
use Rattle.std.proofs.Math.Seq.{drop-cons}
use Rattle.std.proofs.lemmas.List.{append-nil, map-append, take_more}
use Rattle.std.proofs.lemmas.List.Folds.{list_any-append}
use Rattle.std.specs.List.{flat_map, list_any}
use Rattle.folder_rules.specs.Faults.{first}

pub first_behind : {A : Type 0} (xs ys : List A) → first xs ≡ None → first (xs ++ ys) ≡ first ys
first_behind [] ys e = refl
first_behind (x ∷ xs) ys e = absurd cc

pub first_here : {A : Type 0} (xs ys : List A) (x : A) → first xs ≡ Some x → first (xs ++ ys) ≡ Some x
first_here [] ys x e = absurd cc
first_here (y ∷ xs) ys x e = e

pub drop_here : {A : Type 0} (xs : List A) (i : ℕ) (x : A) → i < length xs → x ≡ get_or xs i x → drop i xs ≡ x ∷ drop (i + 1) xs
drop_here xs i x h e = drop-cons xs i x h ∙ ap (λ y. y ∷ drop (suc i) xs) (sym e) ∙ ap (λ n. x ∷ drop n xs) (sym (add-one i))

drop_nil : (A : Type 0) (i : ℕ) → drop {A = A} i [] ≡ []
drop_nil A zero = refl
drop_nil A (suc i) = refl

pub drop_end : {A : Type 0} (xs : List A) (i : ℕ) → length xs ≤ i → drop i xs ≡ []
drop_end {A} [] i h = drop_nil A i
drop_end (x ∷ xs) zero h = absurd (omega arith)
drop_end (x ∷ xs) (suc i) h = drop_end xs i (omega arith)

pub flat_map_same : {A B : Type 0} (f g : A → List B) → ((x : A) → f x ≡ g x) → (xs : List A) → flat_map f xs ≡ flat_map g xs
flat_map_same f g same [] = refl
flat_map_same f g same (x ∷ xs) = ap (λ l. l ++ flat_map f xs) (same x) ∙ ap (λ l. g x ++ l) (flat_map_same f g same xs)

pub flat_map_map : {A B C : Type 0} (f : B → List C) (g : A → B) (xs : List A) → flat_map f (map g xs) ≡ flat_map (λ x. f (g x)) xs
flat_map_map f g [] = refl
flat_map_map f g (x ∷ xs) = ap (λ l. f (g x) ++ l) (flat_map_map f g xs)

pub flat_map_one : {A B : Type 0} (f : A → List B) (xs : List A) (x : A) → flat_map f (xs ++ x ∷ []) ≡ flat_map f xs ++ f x
flat_map_one f [] x = append-nil (f x)
flat_map_one f (y ∷ ys) x = ap (λ l. f y ++ l) (flat_map_one f ys x) ∙ sym (append_assoc (f y) (flat_map f ys) (f x))

-- the turns of a loop so far, and one more
pub flat_map_more : {A B : Type 0} (f : A → List B) (xs : List A) (i : ℕ) (x : A) → i < length xs → x ≡ get_or xs i x → flat_map f (take (i + 1) xs) ≡ flat_map f (take i xs) ++ f x
flat_map_more f xs i x h e = ap (flat_map f) (take_more xs i x h) ∙ flat_map_one f (take i xs) (get_or xs i x) ∙ ap (λ y. flat_map f (take i xs) ++ f y) (sym e)

pub map_more : {A B : Type 0} (f : A → B) (xs : List A) (i : ℕ) (x : A) → i < length xs → x ≡ get_or xs i x → map f (take (i + 1) xs) ≡ map f (take i xs) ++ f x ∷ []
map_more f xs i x h e = ap (map f) (take_more xs i x h) ∙ map-append f (take i xs) (get_or xs i x ∷ []) ∙ ap (λ y. map f (take i xs) ++ f y ∷ []) (sym e)

pub taken : {A B : Type 0} (f : A → B) (xs : List A) (i : ℕ) → i < length xs → length (map f (take i xs)) ≡ i
taken f [] i h = absurd (omega arith)
taken f (x ∷ xs) zero h = refl
taken f (x ∷ xs) (suc i) h = ap suc (taken f xs i (omega arith))

pub get_or_self : {A : Type 0} (xs : List A) (i : ℕ) (d : A) → i < length xs → get_or xs i d ≡ get_or xs i (get_or xs i d)
get_or_self [] i d h = absurd (omega arith)
get_or_self (x ∷ xs) zero d h = refl
get_or_self (x ∷ xs) (suc i) d h = get_or_self xs i d (omega arith)

pub any_more : {A : Type 0} (test : A → Bool) (xs : List A) (i : ℕ) (x : A) → i < length xs → x ≡ get_or xs i x → list_any test (take (i + 1) xs) ≡ (list_any test (take i xs) || test x)
any_more test xs i x h e = ap (list_any test) (take_more xs i x h) ∙ list_any-append test (take i xs) (get_or xs i x ∷ []) ∙ ap (λ y. list_any test (take i xs) || y) (ap (λ y. test y || false) (sym e) ∙ or_false (test x))
  where
    or_false : (b : Bool) → (b || false) ≡ b
    or_false true = refl
    or_false false = refl

-- ---- a loop that looks for the first, of which this is left

module _ {A B : Type 0} (f : A → List B) (xs : List A) where
  pub each_next : (i : ℕ) (x : A) → i < length xs → x ≡ get_or xs i x → first (flat_map f (drop i xs)) ≡ first (flat_map f xs) → None ≡ first (f x) → first (flat_map f (drop (i + 1) xs)) ≡ first (flat_map f xs)
  each_next i x h e left none = sym (first_behind (f x) (flat_map f (drop (i + 1) xs)) (sym none)) ∙ ap (λ l. first (flat_map f l)) (sym (drop_here xs i x h e)) ∙ left

  pub each_here : (i : ℕ) (x : A) → i < length xs → x ≡ get_or xs i x → first (flat_map f (drop i xs)) ≡ first (flat_map f xs) → (b : B) → Some b ≡ first (f x) → Some b ≡ first (flat_map f xs)
  each_here i x h e left b here = sym (first_here (f x) (flat_map f (drop (i + 1) xs)) b (sym here)) ∙ ap (λ l. first (flat_map f l)) (sym (drop_here xs i x h e)) ∙ left

  pub each_end : (i : ℕ) → length xs ≤ i → first (flat_map f (drop i xs)) ≡ first (flat_map f xs) → None ≡ first (flat_map f xs)
  each_end i h left = ap (λ l. first (flat_map f l)) (sym (drop_end xs i h)) ∙ left
