-- Members of lists, and the places of names.
use Rattle.std.proofs.Common.{◌≡◌, ℕ, zero, suc, ◌+◌, ◌-◌, ◌<◌, ◌≤◌, Bool, true, false, cond, ◌||◌, ◌⊎◌, inl, inr, List, [], ◌∷◌, ◌++◌, Option, Some, None, length, get_or, map, refl, sym, ap, ◌∙◌, arith, subst, IsTrue, Decides}
use Rattle.std.specs.List.{Contains, filter_map, cons_option, list_any}
use Rattle.std.specs.Str.{bytes_eq}
use Rattle.std.proofs.lemmas.Slice.Eq.{bytes_eq-Decides}
use Rattle.folder_rules.specs.Names.{is_among, place_from, place_of}

-- ---- members

pub no_member : {A : Type 0} (x : A) → Contains [] x → ⊥
no_member {A} x m = let l : m.0 < 0 = m.1 in absurd (omega arith)

pub first_member : {A : Type 0} (x : A) (xs : List A) → Contains (x ∷ xs) x
first_member x xs = (0, omega arith, refl)

pub later_member : {A : Type 0} (y x : A) (xs : List A) → Contains xs x → Contains (y ∷ xs) x
later_member y x xs m = (suc m.0, omega (arith, m.1), m.2)

pub member_cases : {A : Type 0} (y x : A) (xs : List A) → Contains (y ∷ xs) x → (y ≡ x) ⊎ Contains xs x
member_cases {A} y x xs m = go m.0 m.1 m.2
  where
    go : (k : ℕ) → k < length (y ∷ xs) → get_or (y ∷ xs) k x ≡ x → (y ≡ x) ⊎ Contains xs x
    go zero l e = inl e
    go (suc k) l e = inr (k, omega arith, e)

pub only_member : {A : Type 0} (y x : A) → Contains (y ∷ []) x → y ≡ x
only_member y x m = go (member_cases y x [] m)
  where
    go : (y ≡ x) ⊎ Contains [] x → y ≡ x
    go (inl e) = e
    go (inr n) = absurd (no_member x n)

-- ---- names

same_bytes : (xs ys : List ℕ) → bytes_eq xs ys ≡ true → xs ≡ ys
same_bytes xs ys e = (bytes_eq-Decides xs ys).0 e

equal_bytes : (xs : List ℕ) → bytes_eq xs xs ≡ true
equal_bytes xs = (bytes_eq-Decides xs xs).1 refl

-- a name that is among others stands with them
pub among_member : (names : List (List ℕ)) (name : List ℕ) → IsTrue (is_among names name) → Contains names name
among_member [] name e = let t : false ≡ true = e in absurd cc
among_member (x ∷ xs) name e = go (bytes_eq x name) (λ s. same_bytes x name s) (λ t. among_member xs name t) e
  where
    go : (b : Bool) → (b ≡ true → x ≡ name) → (IsTrue (is_among xs name) → Contains xs name) → IsTrue (b || is_among xs name) → Contains (x ∷ xs) name
    go true h r t = (0, omega arith, h refl)
    go false h r t = later_member x name xs (r t)

pub member_among : (names : List (List ℕ)) (name : List ℕ) → Contains names name → IsTrue (is_among names name)
member_among [] name m = absurd (no_member name m)
member_among (x ∷ xs) name m = go (bytes_eq x name) (λ e. subst (λ n. bytes_eq x n ≡ true) e (equal_bytes x)) (λ n. member_among xs name n) (member_cases x name xs m)
  where
    go : (b : Bool) → (x ≡ name → b ≡ true) → (Contains xs name → IsTrue (is_among xs name)) → (x ≡ name) ⊎ Contains xs name → IsTrue (b || is_among xs name)
    go true h r c = refl
    go false h r (inl e) = let t : false ≡ true = h e in absurd cc
    go false h r (inr n) = r n

-- what is found has its place
found_at : (n : ℕ) (names : List (List ℕ)) (name : List ℕ) (place : ℕ) → place_from n names name ≡ Some place → (n ≤ place) × (place < n + length names) × (get_or names (place - n) [] ≡ name)
found_at n [] name place e = absurd cc
found_at n (x ∷ xs) name place e = go (bytes_eq x name) (λ s. same_bytes x name s) (λ f. found_at (n + 1) xs name place f) e
  where
    go : (b : Bool) → (b ≡ true → x ≡ name) → (place_from (n + 1) xs name ≡ Some place → (n + 1 ≤ place) × (place < n + 1 + length xs) × (get_or xs (place - (n + 1)) [] ≡ name))
        → cond b (Some n) (place_from (n + 1) xs name) ≡ Some place → (n ≤ place) × (place < n + length (x ∷ xs)) × (get_or (x ∷ xs) (place - n) [] ≡ name)
    go true h r f = let same : n ≡ place = cc in let z : place - n ≡ 0 = omega arith in (omega arith, omega arith, ap (λ k. get_or (x ∷ xs) k []) z ∙ h refl)
    go false h r f = let m = r f in let z : place - n ≡ suc (place - (n + 1)) = omega (arith, m.0) in (omega (arith, m.0), omega (arith, m.1), ap (λ k. get_or (x ∷ xs) k []) z ∙ m.2)

pub place_below : (names : List (List ℕ)) (name : List ℕ) (place : ℕ) → place_of names name ≡ Some place → place < length names
place_below names name place e = let m = found_at 0 names name place e in omega (arith, m.1)

pub one_place : (names : List (List ℕ)) (a b : List ℕ) (place : ℕ) → place_of names a ≡ Some place → place_of names b ≡ Some place → a ≡ b
one_place names a b place e f = sym (found_at 0 names a place e).2 ∙ (found_at 0 names b place f).2

-- a member has a place
pub member_place : (n : ℕ) (names : List (List ℕ)) (name : List ℕ) → Contains names name → (place : ℕ) × (place_from n names name ≡ Some place)
member_place n [] name m = absurd (no_member name m)
member_place n (x ∷ xs) name m = go (bytes_eq x name) (λ e. subst (λ k. bytes_eq x k ≡ true) e (equal_bytes x)) (λ r. member_place (n + 1) xs name r) (member_cases x name xs m)
  where
    go : (b : Bool) → (x ≡ name → b ≡ true) → (Contains xs name → (place : ℕ) × (place_from (n + 1) xs name ≡ Some place)) → (x ≡ name) ⊎ Contains xs name → (place : ℕ) × (cond b (Some n) (place_from (n + 1) xs name) ≡ Some place)
    go true h f c = (n, refl)
    go false h f (inl e) = let t : false ≡ true = h e in absurd cc
    go false h f (inr r) = f r

-- ---- what a function gives of members

pub given_member : {A B : Type 0} (f : A → Option B) (xs : List A) (x : A) (y : B) → Contains xs x → f x ≡ Some y → Contains (filter_map f xs) y
given_member f [] x y m e = absurd (no_member x m)
given_member {A} {B} f (z ∷ zs) x y m e = at (λ n. given_member f zs x y n e) (member_cases z x zs m)
  where
    more : (o : Option B) → Contains (filter_map f zs) y → Contains (cons_option o (filter_map f zs)) y
    more None n = n
    more (Some w) n = later_member w y (filter_map f zs) n

    here : (o : Option B) → o ≡ Some y → Contains (cons_option o (filter_map f zs)) y
    here None n = absurd cc
    here (Some w) n = let s : w ≡ y = cc in (0, omega arith, s)

    at : (Contains zs x → Contains (filter_map f zs) y) → (z ≡ x) ⊎ Contains zs x → Contains (filter_map f (z ∷ zs)) y
    at r (inl s) = here (f z) (ap f s ∙ e)
    at r (inr n) = more (f z) (r n)

pub record GivenBy {A B : Type 0} (f : A → Option B) (xs : List A) (y : B) : Type 0 where
  pub item : A
  pub listed : Contains xs item
  pub gives : f item ≡ Some y

pub member_given : {A B : Type 0} (f : A → Option B) (xs : List A) (y : B) → Contains (filter_map f xs) y → GivenBy f xs y
member_given f [] y m = absurd (no_member y m)
member_given {A} {B} f (z ∷ zs) y m = go (f z) refl (λ n. member_given f zs y n) m
  where
    later : GivenBy f zs y → GivenBy f (z ∷ zs) y
    later g = record { item = g.item; listed = later_member z g.item zs g.listed; gives = g.gives }

    at : (w : B) → f z ≡ Some w → (Contains (filter_map f zs) y → GivenBy f zs y) → (w ≡ y) ⊎ Contains (filter_map f zs) y → GivenBy f (z ∷ zs) y
    at w e r (inl s) = record { item = z; listed = first_member z zs; gives = e ∙ ap Some s }
    at w e r (inr n) = later (r n)

    go : (o : Option B) → f z ≡ o → (Contains (filter_map f zs) y → GivenBy f zs y) → Contains (cons_option o (filter_map f zs)) y → GivenBy f (z ∷ zs) y
    go None e r n = later (r n)
    go (Some w) e r n = at w e r (member_cases w y (filter_map f zs) n)
