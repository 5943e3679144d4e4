-- Whether a place is in an order, and orders in which no place stands twice.
use Rattle.std.proofs.Common.{◌≡◌, ℕ, ◌<◌, ◌≤◌, ◌==◌, eqb, Bool, true, false, ◌||◌, ◌⊎◌, inl, inr, List, [], ◌∷◌, ◌++◌, length, refl, sym, ◌∙◌, subst}
use Rattle.std.specs.List.{AllByRecursion, Contains, IsDistinct, list_any}
use Rattle.std.proofs.lemmas.Bool.Decides.{Decides-eqb}
use Rattle.std.proofs.lemmas.Map.Steps.{length-le_from_distinct_below, le-length_from_below}
use Rattle.component_cycles.proofs.Members.{no_member, first_member, later_member, member_cases}
use Rattle.kind_order.specs.Order.{is_listed}

pub listed_member : (order : List ℕ) (place : ℕ) → is_listed order place ≡ true → Contains order place
listed_member [] place e = absurd cc
listed_member (x ∷ xs) place e = go (x == place) refl (λ t. listed_member xs place t) e
  where
    go : (b : Bool) → (x == place) ≡ b → (is_listed xs place ≡ true → Contains xs place) → (b || is_listed xs place) ≡ true → Contains (x ∷ xs) place
    go true s r t = subst (Contains (x ∷ xs)) ((Decides-eqb x place).0 s) (first_member x xs)
    go false s r t = later_member x place xs (r t)

pub member_listed : (order : List ℕ) (place : ℕ) → Contains order place → is_listed order place ≡ true
member_listed [] place m = absurd (no_member place m)
member_listed (x ∷ xs) place m = go (x == place) (λ e. (Decides-eqb x place).1 e) (λ n. member_listed xs place n) (member_cases x place xs m)
  where
    go : (b : Bool) → (x ≡ place → b ≡ true) → (Contains xs place → is_listed xs place ≡ true) → (x ≡ place) ⊎ Contains xs place → (b || is_listed xs place) ≡ true
    go true h r c = refl
    go false h r (inl e) = let t : false ≡ true = h e in absurd cc
    go false h r (inr n) = r n

pub no_member_of : (order : List ℕ) (place : ℕ) → is_listed order place ≡ false → Contains order place → ⊥
no_member_of order place e m = let t : false ≡ true = sym e ∙ member_listed order place m in absurd cc

pub not_listed : (order : List ℕ) (place : ℕ) → (Contains order place → ⊥) → is_listed order place ≡ false
not_listed order place h = go (is_listed order place) refl
  where
    go : (b : Bool) → is_listed order place ≡ b → is_listed order place ≡ false
    go true e = absurd (h (listed_member order place e))
    go false e = e

-- ---- no place twice

abbrev pub Differ : List ℕ → Type 0
Differ places = IsDistinct (λ a b. a == b) places

pub none_differ : Differ []
unfolding IsDistinct
none_differ = tt

apart : (x y : ℕ) → (x ≡ y → ⊥) → (x == y) ≡ false
apart x y h = go (x == y) refl
  where
    go : (b : Bool) → (x == y) ≡ b → (x == y) ≡ false
    go true e = absurd (h ((Decides-eqb x y).0 e))
    go false e = e

all_apart : (x : ℕ) (xs : List ℕ) → (Contains xs x → ⊥) → AllByRecursion (λ y. (x == y) ≡ false) xs
all_apart x [] h = tt
all_apart x (y ∷ ys) h = (apart x y (λ e. h (subst (Contains (y ∷ ys)) (sym e) (first_member y ys))), all_apart x ys (λ m. h (later_member y x ys m)))

pub differ_more : (x : ℕ) (xs : List ℕ) → (Contains xs x → ⊥) → Differ xs → Differ (x ∷ xs)
unfolding IsDistinct
differ_more x xs h d = (all_apart x xs h, d)

apart_more : (x y : ℕ) (xs : List ℕ) → (x == y) ≡ false → AllByRecursion (λ z. (x == z) ≡ false) xs → AllByRecursion (λ z. (x == z) ≡ false) (xs ++ y ∷ [])
apart_more x y [] e a = (e, tt)
apart_more x y (z ∷ zs) e a = (a.0, apart_more x y zs e a.1)

pub differ_behind : (xs : List ℕ) (y : ℕ) → (Contains xs y → ⊥) → Differ xs → Differ (xs ++ y ∷ [])
unfolding IsDistinct
differ_behind [] y h d = (tt, tt)
differ_behind (x ∷ xs) y h d =
    (apart_more x y xs (apart x y (λ e. h (subst (Contains (x ∷ xs)) e (first_member x xs)))) d.0, differ_behind xs y (λ m. h (later_member x y xs m)) d.1)

any_member : (xs : List ℕ) (q : ℕ) → list_any (eqb q) xs ≡ true → Contains xs q
any_member [] q e = absurd cc
any_member (x ∷ xs) q e = go (eqb q x) refl (λ t. any_member xs q t) e
  where
    go : (b : Bool) → eqb q x ≡ b → (list_any (eqb q) xs ≡ true → Contains xs q) → (b || list_any (eqb q) xs) ≡ true → Contains (x ∷ xs) q
    go true s r t = subst (Contains (x ∷ xs)) (sym ((Decides-eqb q x).0 s)) (first_member x xs)
    go false s r t = later_member x q xs (r t)

member_any : (xs : List ℕ) (q : ℕ) → Contains xs q → list_any (eqb q) xs ≡ true
member_any [] q m = absurd (no_member q m)
member_any (x ∷ xs) q m = go (eqb q x) (λ e. (Decides-eqb q x).1 (sym e)) (λ n. member_any xs q n) (member_cases x q xs m)
  where
    go : (b : Bool) → (x ≡ q → b ≡ true) → (Contains xs q → list_any (eqb q) xs ≡ true) → (x ≡ q) ⊎ Contains xs q → (b || list_any (eqb q) xs) ≡ true
    go true h r c = refl
    go false h r (inl e) = let t : false ≡ true = h e in absurd cc
    go false h r (inr n) = r n

pub at_most : (count : ℕ) (xs : List ℕ) → Differ xs → ((q : ℕ) → Contains xs q → q < count) → length xs ≤ count
at_most count xs d below = length-le_from_distinct_below xs count d (λ q e. below q (any_member xs q e))

pub at_least : (count : ℕ) (xs : List ℕ) → ((q : ℕ) → q < count → Contains xs q) → count ≤ length xs
at_least count xs all = le-length_from_below xs count (λ q l. member_any xs q (all q l))
