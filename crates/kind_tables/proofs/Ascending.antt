-- The least of names, and names in ascending order.
use Rattle.std.proofs.Common.{◌≡◌, ℕ, zero, suc, ◌-◌, ◌<◌, Bool, true, false, cond, ◌||◌, ◌&&◌, List, [], ◌∷◌, ◌++◌, Option, Some, None, is_some, map, refl, sym, ap, ◌∙◌, arith}
use Rattle.std.specs.Prelude.{filter, slice_get}
use Rattle.std.specs.Cmp.Lexicographic.{slice_cmp}
use Rattle.std.specs.List.{AllByRecursion}
use Rattle.std.specs.List.Sorted.{IsStrictlySortedBy}
use Rattle.std.specs.Map.{keys_of}
use Rattle.std.specs.Ordering.{nat_cmp}
use Rattle.std.specs.Str.{bytes_eq}
use Rattle.std.specs.declared.cmp.Ordering.TheVariants.{Less}
use Rattle.std.proofs.lemmas.List.Kept.{IsStrictlySortedBy-filter}
use Rattle.std.proofs.lemmas.Slice.Eq.{bytes_eq-Decides}
use Rattle.folder_rules.specs.Names.{is_among}
use Rattle.ordered_names.specs.Values.{behind, is_before, value_of}
use Rattle.kind_tables.specs.Ascending.{earlier, least, behind_one, name_at}
use Rattle.kind_tables.proofs.Order.{among_cases, before_both, before_itself, is_itself, less_is_before, never_both, not_before_both, or_true, same}

-- ---- the least

record IsLeast (names : List (List ℕ)) (x : List ℕ) : Type 0 where
  among : is_among names x ≡ true
  low : (y : List ℕ) → is_among names y ≡ true → is_before y x ≡ false

abbrev Says : List (List ℕ) → Option (List ℕ) → Type 0
Says names None = names ≡ []
Says names (Some x) = IsLeast names x

least_says : (names : List (List ℕ)) → Says names (least names)
least_says [] = refl
least_says (x ∷ xs) = go (least xs) (least_says xs)
  where
    head : is_among (x ∷ xs) x ≡ true
    head = ap (λ b. b || is_among xs x) (is_itself x)

    choose : (m : List ℕ) → IsLeast xs m → (b : Bool) → is_before m x ≡ b → IsLeast (x ∷ xs) (cond b m x)
    choose m s true e = record {
      among = ap (λ b. bytes_eq x m || b) s.among ∙ or_true (bytes_eq x m);
      low = among_cases (λ y. is_before y m ≡ false) x xs (never_both m x e) s.low;
    }
    choose m s false e = record {
      among = head;
      low = among_cases (λ y. is_before y x ≡ false) x xs (before_itself x) (λ y h. not_before_both y m x (s.low y h) e);
    }

    go : (o : Option (List ℕ)) → Says xs o → Says (x ∷ xs) (earlier (Some x) o)
    go None e = record {
      among = head;
      low = among_cases (λ y. is_before y x ≡ false) x xs (before_itself x) (λ y h. let none : false ≡ true = sym (ap (λ l. is_among l y) e) ∙ h in absurd cc);
    }
    go (Some m) s = choose m s (is_before m x) refl

least_from : (names : List (List ℕ)) (x : List ℕ) → IsLeast names x → least names ≡ Some x
least_from names x l = go (least names) (least_says names)
  where
    go : (o : Option (List ℕ)) → Says names o → o ≡ Some x
    go None e = let none : false ≡ true = sym (ap (λ l. is_among l x) e) ∙ l.among in absurd cc
    go (Some y) s = ap Some (same y x (l.low y s.among) (s.low x l.among))

-- ---- the same names, in another order

abbrev pub SameNames : List (List ℕ) → List (List ℕ) → Type 0
SameNames xs ys = (name : List ℕ) → is_among xs name ≡ is_among ys name

none_among : (ys : List (List ℕ)) → ((name : List ℕ) → is_among ys name ≡ false) → ys ≡ []
none_among [] none = refl
none_among (y ∷ ys) none = let wrong : true ≡ false = sym (ap (λ b. b || is_among ys y) (is_itself y)) ∙ none y in absurd cc

least_same : (xs ys : List (List ℕ)) → SameNames xs ys → least xs ≡ least ys
least_same xs ys alike = go (least xs) (least_says xs)
  where
    go : (o : Option (List ℕ)) → Says xs o → o ≡ least ys
    go None e = sym (ap least (none_among ys (λ name. sym (alike name) ∙ ap (λ l. is_among l name) e)))
    go (Some x) s = sym (least_from ys x (record { among = sym (alike x) ∙ s.among; low = λ y h. s.low y (alike y ∙ h) }))

among_filter : (test : List ℕ → Bool) (xs : List (List ℕ)) (name : List ℕ) → is_among (filter test xs) name ≡ (is_among xs name && test name)
among_filter test [] name = refl
among_filter test (x ∷ xs) name = go (test x) (bytes_eq x name) refl refl (among_filter test xs name)
  where
    and_false : (b : Bool) → (b && false) ≡ false
    and_false true = refl
    and_false false = refl

    go : (t b : Bool) → test x ≡ t → bytes_eq x name ≡ b → is_among (filter test xs) name ≡ (is_among xs name && test name) → is_among (cond t (x ∷ filter test xs) (filter test xs)) name ≡ ((b || is_among xs name) && test name)
    go true true e f rest = ap (λ c. c || is_among (filter test xs) name) f ∙ sym e ∙ ap test ((bytes_eq-Decides x name).0 f)
    go true false e f rest = ap (λ c. c || is_among (filter test xs) name) f ∙ rest
    go false true e f rest =
        let fails : test name ≡ false = ap test (sym ((bytes_eq-Decides x name).0 f)) ∙ e in
        rest ∙ ap (λ c. is_among xs name && c) fails ∙ and_false (is_among xs name) ∙ sym fails
    go false false e f rest = rest

filter_same : (test : List ℕ → Bool) (xs ys : List (List ℕ)) → SameNames xs ys → SameNames (filter test xs) (filter test ys)
filter_same test xs ys alike name = among_filter test xs name ∙ ap (λ b. b && test name) (alike name) ∙ sym (among_filter test ys name)

pub name_at_same : (n : ℕ) (xs ys : List (List ℕ)) → SameNames xs ys → name_at n xs ≡ name_at n ys
name_at_same zero xs ys alike = least_same xs ys alike
name_at_same (suc n) xs ys alike =
    go (λ x. name_at_same n (filter (is_before x) xs) (filter (is_before x) ys) (filter_same (is_before x) xs ys alike)) (least xs)
    ∙ ap (λ o. name_at n (behind_one o ys)) (least_same xs ys alike)
  where
    go : ((x : List ℕ) → name_at n (filter (is_before x) xs) ≡ name_at n (filter (is_before x) ys)) → (o : Option (List ℕ)) → name_at n (behind_one o xs) ≡ name_at n (behind_one o ys)
    go rest None = refl
    go rest (Some x) = rest x

-- ---- names that stand in order

all_behind : (x : List ℕ) (xs : List (List ℕ)) → AllByRecursion (λ y. slice_cmp nat_cmp x y ≡ Less) xs → (y : List ℕ) → is_among xs y ≡ true → is_before x y ≡ true
all_behind x [] all y h = absurd cc
all_behind x (z ∷ xs) all y h = among_cases (λ y. is_before x y ≡ true) z xs (less_is_before x z all.0) (all_behind x xs all.1) y h

all_pass : (x : List ℕ) (xs : List (List ℕ)) → AllByRecursion (λ y. slice_cmp nat_cmp x y ≡ Less) xs → filter (is_before x) xs ≡ xs
all_pass x [] all = refl
all_pass x (y ∷ xs) all = ap (λ b. cond b (y ∷ filter (is_before x) xs) (filter (is_before x) xs)) (less_is_before x y all.0) ∙ ap (λ l. y ∷ l) (all_pass x xs all.1)

pub none_at : (n : ℕ) → name_at n [] ≡ None
none_at zero = refl
none_at (suc n) = none_at n

first_is_least : (x : List ℕ) (xs : List (List ℕ)) → AllByRecursion (λ y. slice_cmp nat_cmp x y ≡ Less) xs → least (x ∷ xs) ≡ Some x
first_is_least x xs all = least_from (x ∷ xs) x (record {
  among = ap (λ b. b || is_among xs x) (is_itself x);
  low = among_cases (λ y. is_before y x ≡ false) x xs (before_itself x) (λ y h. never_both x y (all_behind x xs all y h));
})

pub in_order_at : (names : List (List ℕ)) → IsStrictlySortedBy (slice_cmp nat_cmp) names → (n : ℕ) → slice_get names n ≡ name_at n names
unfolding IsStrictlySortedBy
in_order_at [] up zero = refl
in_order_at [] up (suc n) = sym (none_at n)
in_order_at (x ∷ xs) up zero = sym (first_is_least x xs up.0)
in_order_at (x ∷ xs) up (suc n) =
    in_order_at xs up.1 n
    ∙ sym (ap (λ o. name_at n (behind_one o (x ∷ xs))) (first_is_least x xs up.0)
    ∙ ap (λ b. name_at n (cond b (x ∷ filter (is_before x) xs) (filter (is_before x) xs))) (before_itself x)
    ∙ ap (name_at n) (all_pass x xs up.0))

pub keys_among : {V : Type 0} (entries : List (List ℕ × V)) (name : List ℕ) → is_some (value_of entries name) ≡ is_among (keys_of entries) name
keys_among [] name = refl
keys_among (e ∷ es) name = go (bytes_eq e.0 name) (keys_among es name)
  where
    go : (b : Bool) → is_some (value_of es name) ≡ is_among (keys_of es) name → is_some (cond b (Some e.1) (value_of es name)) ≡ (b || is_among (keys_of es) name)
    go true h = refl
    go false h = h

pub units_among : {A : Type 0} (f : A → List ℕ) (xs : List A) (name : List ℕ) → is_some (value_of (map (λ x. (f x, tt {0})) xs) name) ≡ is_among (map f xs) name
units_among f [] name = refl
units_among f (x ∷ xs) name = go (bytes_eq (f x) name) (units_among f xs name)
  where
    go : (b : Bool) → is_some (value_of (map (λ x. (f x, tt {0})) xs) name) ≡ is_among (map f xs) name → is_some (cond b (Some (tt {0})) (value_of (map (λ x. (f x, tt {0})) xs) name)) ≡ (b || is_among (map f xs) name)
    go true h = refl
    go false h = h

-- ---- the least of lists that are put together

pub earlier_none : (o : Option (List ℕ)) → earlier o None ≡ o
earlier_none None = refl
earlier_none (Some a) = refl

of_three : (a b c : List ℕ) (p q r : Bool) → is_before b a ≡ p → is_before c b ≡ q → is_before c a ≡ r
    → cond (is_before (cond q c b) a) (cond q c b) a ≡ cond (is_before c (cond p b a)) c (cond p b a)
of_three a b c true true r e f g =
    let h = before_both c b a f e in
    ap (λ t. cond t c a) h ∙ sym (ap (λ t. cond t c b) f)
of_three a b c true false r e f g = ap (λ t. cond t b a) e ∙ sym (ap (λ t. cond t c b) f)
of_three a b c false true r e f g = refl
of_three a b c false false r e f g =
    let h = not_before_both c b a f e in
    ap (λ t. cond t b a) e ∙ sym (ap (λ t. cond t c a) h)

pub earlier_both : (a b c : Option (List ℕ)) → earlier a (earlier b c) ≡ earlier (earlier a b) c
earlier_both None b c = refl
earlier_both (Some a) None c = refl
earlier_both (Some a) (Some b) None = refl
earlier_both (Some a) (Some b) (Some c) = ap Some (of_three a b c (is_before b a) (is_before c b) (is_before c a) refl refl refl)

pub least_of_both : (xs ys : List (List ℕ)) → least (xs ++ ys) ≡ earlier (least xs) (least ys)
least_of_both [] ys = refl
least_of_both (x ∷ xs) ys = ap (earlier (Some x)) (least_of_both xs ys) ∙ earlier_both (Some x) (least xs) (least ys)

pub behind_both : (o : Option (List ℕ)) (xs ys : List (List ℕ)) → behind o (xs ++ ys) ≡ behind o xs ++ behind o ys
behind_both None xs ys = refl
behind_both (Some x) xs ys = go xs
  where
    go : (l : List (List ℕ)) → filter (is_before x) (l ++ ys) ≡ filter (is_before x) l ++ filter (is_before x) ys
    go [] = refl
    go (z ∷ l) = pass (is_before x z) (go l)
      where
        pass : (b : Bool) → filter (is_before x) (l ++ ys) ≡ filter (is_before x) l ++ filter (is_before x) ys
            → cond b (z ∷ filter (is_before x) (l ++ ys)) (filter (is_before x) (l ++ ys)) ≡ cond b (z ∷ filter (is_before x) l) (filter (is_before x) l) ++ filter (is_before x) ys
        pass true h = ap (λ m. z ∷ m) h
        pass false h = h

pub first_behind : (o : Option (List ℕ)) (names : List (List ℕ)) → IsStrictlySortedBy (slice_cmp nat_cmp) names → slice_get (behind o names) 0 ≡ least (behind o names)
first_behind None names up = in_order_at names up 0
first_behind (Some x) names up = in_order_at (filter (is_before x) names) (IsStrictlySortedBy-filter (slice_cmp nat_cmp) (is_before x) names up) 0

-- the earliest so far, of a list that stands in order, and of the lists behind it
pub earliest_of_both : (o first : Option (List ℕ)) (names rest : List (List ℕ)) → IsStrictlySortedBy (slice_cmp nat_cmp) names
    → earlier first (least (behind o (names ++ rest))) ≡ earlier (earlier first (slice_get (behind o names) 0)) (least (behind o rest))
earliest_of_both o first names rest up =
    ap (λ l. earlier first (least l)) (behind_both o names rest)
    ∙ ap (earlier first) (least_of_both (behind o names) (behind o rest))
    ∙ earlier_both first (least (behind o names)) (least (behind o rest))
    ∙ ap (λ m. earlier (earlier first m) (least (behind o rest))) (sym (first_behind o names up))

-- ---- one name after another

-- the name n places behind a name, or that name
abbrev pub later : ℕ → Option (List ℕ) → List (List ℕ) → Option (List ℕ)
later zero name names = name
later (suc n) None names = None
later (suc n) (Some name) names = later n (least (filter (is_before name) names)) names

filter_twice : (x y : List ℕ) → is_before x y ≡ true → (names : List (List ℕ)) → filter (is_before y) (filter (is_before x) names) ≡ filter (is_before y) names
filter_twice x y h [] = refl
filter_twice x y h (z ∷ zs) = go (is_before x z) (is_before y z) refl refl (filter_twice x y h zs)
  where
    go : (p q : Bool) → is_before x z ≡ p → is_before y z ≡ q → filter (is_before y) (filter (is_before x) zs) ≡ filter (is_before y) zs
        → filter (is_before y) (cond p (z ∷ filter (is_before x) zs) (filter (is_before x) zs)) ≡ cond q (z ∷ filter (is_before y) zs) (filter (is_before y) zs)
    go true q e f rest = ap (λ b. cond b (z ∷ filter (is_before y) (filter (is_before x) zs)) (filter (is_before y) (filter (is_before x) zs))) f ∙ ap (λ l. cond q (z ∷ l) l) rest
    go false true e f rest = let wrong : true ≡ false = sym (before_both x y z h f) ∙ e in absurd cc
    go false false e f rest = rest

-- names behind one among some of them are those behind it among all
abbrev AreLast : List (List ℕ) → List (List ℕ) → Type 0
AreLast names some = (x : List ℕ) → is_among some x ≡ true → filter (is_before x) some ≡ filter (is_before x) names

and_right : (a b : Bool) → (a && b) ≡ true → b ≡ true
and_right true b h = h
and_right false b h = absurd cc

later_is : (n : ℕ) (names some : List (List ℕ)) → AreLast names some → name_at n some ≡ later n (least some) names
later_is zero names some last = refl
later_is (suc n) names some last =
    go (λ x. later_is n names (filter (is_before x) names) (λ y h. filter_twice x y (and_right (is_among names y) (is_before x y) (sym (among_filter (is_before x) names y) ∙ h)) names)) (least some) (least_says some)
  where
    go : ((x : List ℕ) → name_at n (filter (is_before x) names) ≡ later n (least (filter (is_before x) names)) names) → (o : Option (List ℕ)) → Says some o → name_at n (behind_one o some) ≡ later (suc n) o names
    go rest None s = none_at n
    go rest (Some x) s = ap (name_at n) (last x s.among) ∙ rest x

pub name_at_is : (n : ℕ) (names : List (List ℕ)) → name_at n names ≡ later n (least names) names
name_at_is n names = later_is n names names (λ x h. refl)

pub later_none : (n : ℕ) (names : List (List ℕ)) → later n None names ≡ None
later_none zero names = refl
later_none (suc n) names = refl

pub later_step : (n : ℕ) (x : List ℕ) (names : List (List ℕ)) → 0 < n → later n (Some x) names ≡ later (n - 1) (least (filter (is_before x) names)) names
later_step zero x names h = absurd (omega arith)
later_step (suc n) x names h = let e : n ≡ suc n - 1 = omega arith in ap (λ m. later m (least (filter (is_before x) names)) names) e
