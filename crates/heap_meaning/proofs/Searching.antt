-- Where a key stands among those of an associative array, and what a change at that place does.
use Rattle.std.proofs.Common.{◌≡◌, ℕ, zero, suc, ◌<◌, ◌≤◌, List, [], ◌∷◌, ◌++◌, length, map, Option, Some, None, Bool, true, false, cond, refl, sym, ap, ◌∙◌, subst, arith, ◌⊎◌, inl, inr, not}
use Rattle.std.specs.Prelude.{slice_get, slice_set, option_map, take, drop}
use Rattle.std.specs.List.{insert, remove, filter, AllByRecursion}
use Rattle.std.specs.List.Sorted.{IsStrictlySortedBy}
use Rattle.std.specs.Ordering.{nat_cmp, is_lt, is_eq, ordering_reverse}
use Rattle.std.specs.declared.cmp.Ordering.{Ordering}
use Rattle.std.specs.declared.cmp.Ordering.TheVariants.{Less, Equal, Greater}
use Rattle.std.specs.Cmp.Lexicographic.{slice_cmp}
use Rattle.std.specs.Str.{bytes_eq}
use Rattle.std.proofs.lemmas.Cmp.{nat_list_cmp_total, tied_itself}
use Rattle.std.proofs.lemmas.Map.Text.{is_eq-slice_cmp}
use Rattle.std.proofs.lemmas.List.Kept.{IsStrictlySortedBy-filter}
use Rattle.std.proofs.lemmas.Option.{slice_get-map, slice_get_within}
use Rattle.chan_values.specs.Folded.{folded}
use Rattle.chan_values.specs.Portable.{IsKeyList}
use Rattle.heap_meaning.specs.Values.{Entry, Value}
use Rattle.heap_meaning.proofs.Lists.{lt_or, map_append}
use Rattle.heap_meaning.specs.Stands.{Naming, meaning, entry_meaning}
use Rattle.heap_meaning.specs.Keys.{is_before, keys_of, value_at_key, before_key, after_key, with_key, without_key, IsGap}

abbrev order : List ℕ → List ℕ → Ordering
order = slice_cmp nat_cmp

lt_less : (o : Ordering) → is_lt o ≡ true → o ≡ Less
lt_less Less e = refl
lt_less Equal e = absurd cc
lt_less Greater e = absurd cc

turned : (o : Ordering) → o ≡ Less → is_lt (ordering_reverse o) ≡ false
turned o e = ap (λ x. is_lt (ordering_reverse x)) e

not_same : (o : Ordering) → o ≡ Less → is_eq o ≡ false
not_same o e = ap is_eq e

not_same_turned : (o : Ordering) → o ≡ Less → is_eq (ordering_reverse o) ≡ false
not_same_turned o e = ap (λ x. is_eq (ordering_reverse x)) e

-- a key is not before itself
pub not_itself : (k : List ℕ) → is_before k k ≡ false
not_itself k = ap is_lt (tied_itself nat_list_cmp_total k)

-- of two keys at most one is before the other
pub not_back : (k l : List ℕ) → is_before k l ≡ true → is_before l k ≡ false
not_back k l e = ap is_lt (nat_list_cmp_total.antisymm l k) ∙ turned (order k l) (lt_less _ e)

differ : (k l : List ℕ) → is_before k l ≡ true → bytes_eq k l ≡ false
differ k l e = sym (is_eq-slice_cmp k l) ∙ not_same (order k l) (lt_less _ e)

differ_back : (k l : List ℕ) → is_before k l ≡ true → bytes_eq l k ≡ false
differ_back k l e = sym (is_eq-slice_cmp l k) ∙ ap is_eq (nat_list_cmp_total.antisymm l k) ∙ not_same_turned (order k l) (lt_less _ e)

same_bytes : (k : List ℕ) → bytes_eq k k ≡ true
same_bytes k = sym (is_eq-slice_cmp k k) ∙ ap is_eq (tied_itself nat_list_cmp_total k)

all_get : {A : Type 0} (P : A → Type 0) (xs : List A) (i : ℕ) (x : A) → AllByRecursion P xs → slice_get xs i ≡ Some x → P x
all_get P [] i x a e = absurd cc
all_get P (y ∷ xs) zero x a e = let f : y ≡ x = cc in subst P f a.0
all_get P (y ∷ xs) (suc i) x a e = all_get P xs i x a.1 e

-- earlier keys are before later ones
pub sorted_before : (keys : List (List ℕ)) (i j : ℕ) (k l : List ℕ) → IsStrictlySortedBy (slice_cmp nat_cmp) keys → j < i → slice_get keys j ≡ Some l → slice_get keys i ≡ Some k → is_before l k ≡ true
unfolding IsStrictlySortedBy
sorted_before [] i j k l s h e f = absurd cc
sorted_before (x ∷ keys) zero j k l s h e f = absurd (omega arith)
sorted_before (x ∷ keys) (suc i) zero k l s h e f =
    let g : x ≡ l = cc in
    ap is_lt (subst (λ y. order y k ≡ Less) g (all_get (λ y. order x y ≡ Less) keys i k s.0 f))
sorted_before (x ∷ keys) (suc i) (suc j) k l s h e f = sorted_before keys i j k l s.1 (omega arith) e f

module _ {A : Type 0} where
  key_there : (es : List (Entry A)) (j : ℕ) (e : Entry A) → slice_get es j ≡ Some e → slice_get (keys_of es) j ≡ Some e.key
  key_there es j e q = slice_get-map (λ (x : Entry A). x.key) es j ∙ ap (option_map (λ (x : Entry A). x.key)) q

  filter_none : (t : Entry A → Bool) (es : List (Entry A)) → ((j : ℕ) (e : Entry A) → slice_get es j ≡ Some e → t e ≡ false) → filter t es ≡ []
  filter_none t [] h = refl
  filter_none t (x ∷ es) h = ap (λ b. cond b (x ∷ filter t es) (filter t es)) (h 0 x refl) ∙ filter_none t es (λ j. h (suc j))

  filter_all : (t : Entry A → Bool) (es : List (Entry A)) → ((j : ℕ) (e : Entry A) → slice_get es j ≡ Some e → t e ≡ true) → filter t es ≡ es
  filter_all t [] h = refl
  filter_all t (x ∷ es) h = ap (λ b. cond b (x ∷ filter t es) (filter t es)) (h 0 x refl) ∙ ap (λ r. x ∷ r) (filter_all t es (λ j. h (suc j)))

  -- a test that the first i entries pass and no other
  pub filter_front : (t : Entry A → Bool) (es : List (Entry A)) (i : ℕ) → ((j : ℕ) (e : Entry A) → j < i → slice_get es j ≡ Some e → t e ≡ true) → ((j : ℕ) (e : Entry A) → i ≤ j → slice_get es j ≡ Some e → t e ≡ false) → filter t es ≡ take i es
  filter_front t es zero p q = filter_none t es (λ j e. q j e (omega arith))
  filter_front t [] (suc i) p q = refl
  filter_front t (x ∷ es) (suc i) p q =
      ap (λ b. cond b (x ∷ filter t es) (filter t es)) (p 0 x (omega arith) refl)
      ∙ ap (λ r. x ∷ r) (filter_front t es i (λ j e l. p (suc j) e (omega arith)) (λ j e l. q (suc j) e (omega arith)))

  -- a test that the first i entries fail and each other passes
  pub filter_back : (t : Entry A → Bool) (es : List (Entry A)) (i : ℕ) → ((j : ℕ) (e : Entry A) → j < i → slice_get es j ≡ Some e → t e ≡ false) → ((j : ℕ) (e : Entry A) → i ≤ j → slice_get es j ≡ Some e → t e ≡ true) → filter t es ≡ drop i es
  filter_back t es zero p q = filter_all t es (λ j e. q j e (omega arith))
  filter_back t [] (suc i) p q = refl
  filter_back t (x ∷ es) (suc i) p q =
      ap (λ b. cond b (x ∷ filter t es) (filter t es)) (p 0 x (omega arith) refl)
      ∙ filter_back t es i (λ j e l. p (suc j) e (omega arith)) (λ j e l. q (suc j) e (omega arith))

  -- a new key is put at its gap
  pub with_key_new : (es : List (Entry A)) (key : List ℕ) (i : ℕ) (w : A) → IsGap (keys_of es) key i → with_key es key w ≡ insert es i (record { key = key; value = w })
  with_key_new es key i w gap =
      let front : before_key es key ≡ take i es = filter_front (λ e. is_before e.key key) es i (λ j e l q. gap.before j e.key l (key_there es j e q)) (λ j e l q. not_back key e.key (gap.after j e.key l (key_there es j e q))) in
      let back : after_key es key ≡ drop i es = filter_back (λ e. is_before key e.key) es i (λ j e l q. not_back e.key key (gap.before j e.key l (key_there es j e q))) (λ j e l q. gap.after j e.key l (key_there es j e q)) in
      ap (λ r. r ++ record { key = key; value = w } ∷ after_key es key) front ∙ ap (λ r. take i es ++ record { key = key; value = w } ∷ r) back

  pub value_new : (es : List (Entry A)) (key : List ℕ) → ((j : ℕ) (e : Entry A) → slice_get es j ≡ Some e → bytes_eq e.key key ≡ false) → value_at_key es key ≡ None
  value_new [] key h = refl
  value_new (x ∷ es) key h = ap (λ b. cond b (Some x.value) (value_at_key es key)) (h 0 x refl) ∙ value_new es key (λ j. h (suc j))

  -- nothing stands at a key that has a gap
  pub value_in_gap : (es : List (Entry A)) (key : List ℕ) (i : ℕ) → IsGap (keys_of es) key i → value_at_key es key ≡ None
  value_in_gap es key i gap = value_new es key (λ j e q. elim (lt_or j i) [ inl l ↦ differ e.key key (gap.before j e.key l (key_there es j e q)) | inr l ↦ differ_back key e.key (gap.after j e.key l (key_there es j e q)) ])

  value_first : (es : List (Entry A)) (key : List ℕ) (i : ℕ) (e : Entry A) → ((j : ℕ) (x : Entry A) → j < i → slice_get es j ≡ Some x → bytes_eq x.key key ≡ false) → slice_get es i ≡ Some e → bytes_eq e.key key ≡ true → value_at_key es key ≡ Some e.value
  value_first [] key i e h q r = absurd cc
  value_first (x ∷ es) key zero e h q r = let f : x ≡ e = cc in ap (λ (y : Entry A). cond (bytes_eq y.key key) (Some y.value) (value_at_key es key)) f ∙ ap (λ b. cond b (Some e.value) (value_at_key es key)) r
  value_first (x ∷ es) key (suc i) e h q r = ap (λ b. cond b (Some x.value) (value_at_key es key)) (h 0 x (omega arith) refl) ∙ value_first es key i e (λ j y l. h (suc j) y (omega arith)) q r

  module _ (es : List (Entry A)) (sorted : IsStrictlySortedBy (slice_cmp nat_cmp) (keys_of es)) (i : ℕ) (e : Entry A) (there : slice_get es i ≡ Some e) where
    here : slice_get (keys_of es) i ≡ Some e.key
    here = key_there es i e there

    earlier : (j : ℕ) (x : Entry A) → j < i → slice_get es j ≡ Some x → is_before x.key e.key ≡ true
    earlier j x l q = sorted_before (keys_of es) i j e.key x.key sorted l (key_there es j x q) here

    later : (j : ℕ) (x : Entry A) → i < j → slice_get es j ≡ Some x → is_before e.key x.key ≡ true
    later j x l q = sorted_before (keys_of es) j i x.key e.key sorted l here (key_there es j x q)

    itself : (j : ℕ) (x : Entry A) → j ≡ i → slice_get es j ≡ Some x → x.key ≡ e.key
    itself j x l q = let f : slice_get es i ≡ Some x = subst (λ n. slice_get es n ≡ Some x) l q in let g : x ≡ e = cc in ap (λ (y : Entry A). y.key) g

    front : before_key es e.key ≡ take i es
    front = filter_front (λ x. is_before x.key e.key) es i earlier not_front
      where
        not_front : (j : ℕ) (x : Entry A) → i ≤ j → slice_get es j ≡ Some x → is_before x.key e.key ≡ false
        not_front j x l q = elim (lt_or i j) [ inl h ↦ not_back e.key x.key (later j x h q) | inr h ↦ ap (λ k. is_before k e.key) (itself j x (omega arith) q) ∙ not_itself e.key ]

    back : after_key es e.key ≡ drop (suc i) es
    back = filter_back (λ x. is_before e.key x.key) es (suc i) not_behind (λ j x l q. later j x (omega arith) q)
      where
        not_behind : (j : ℕ) (x : Entry A) → j < suc i → slice_get es j ≡ Some x → is_before e.key x.key ≡ false
        not_behind j x l q = elim (lt_or j i) [ inl h ↦ not_back x.key e.key (earlier j x h q) | inr h ↦ ap (λ k. is_before e.key k) (itself j x (omega arith) q) ∙ not_itself e.key ]

    pub value_there : value_at_key es e.key ≡ Some e.value
    value_there = value_first es e.key i e (λ j x l q. differ x.key e.key (earlier j x l q)) there (same_bytes e.key)

    pub without_key_there : without_key es e.key ≡ remove es i
    without_key_there = ap (λ r. r ++ after_key es e.key) front ∙ ap (λ r. take i es ++ r) back

    set_parts : (xs : List (Entry A)) (n : ℕ) (x y : Entry A) → slice_get xs n ≡ Some x → slice_set xs n y ≡ take n xs ++ y ∷ drop (suc n) xs
    set_parts [] n x y q = absurd cc
    set_parts (z ∷ xs) zero x y q = refl
    set_parts (z ∷ xs) (suc n) x y q = ap (λ r. z ∷ r) (set_parts xs n x y q)

    pub with_key_there : (w : A) → with_key es e.key w ≡ slice_set es i (record { key = e.key; value = w })
    with_key_there w =
        ap (λ r. r ++ record { key = e.key; value = w } ∷ after_key es e.key) front ∙ ap (λ r. take i es ++ record { key = e.key; value = w } ∷ r) back
        ∙ sym (set_parts es i e (record { key = e.key; value = w }) there)

-- keys stay in order
module _ (P : List ℕ → Type 0) where
  all_append : (xs ys : List (List ℕ)) → AllByRecursion P xs → AllByRecursion P ys → AllByRecursion P (xs ++ ys)
  all_append [] ys a b = b
  all_append (x ∷ xs) ys a b = (a.0, all_append xs ys a.1 b)

  all_filter : (t : List ℕ → Bool) (xs : List (List ℕ)) → AllByRecursion P xs → AllByRecursion P (filter t xs)
  all_filter t [] a = tt
  all_filter t (x ∷ xs) a = go (t x) (all_filter t xs a.1)
    where
      go : (b : Bool) → AllByRecursion P (filter t xs) → AllByRecursion P (cond b (x ∷ filter t xs) (filter t xs))
      go true r = (a.0, r)
      go false r = r

all_pass : (t : List ℕ → Bool) (xs : List (List ℕ)) → AllByRecursion (λ x. t x ≡ true) (filter t xs)
all_pass t [] = tt
all_pass t (x ∷ xs) = go (t x) refl (all_pass t xs)
  where
    go : (b : Bool) → t x ≡ b → AllByRecursion (λ x. t x ≡ true) (filter t xs) → AllByRecursion (λ x. t x ≡ true) (cond b (x ∷ filter t xs) (filter t xs))
    go true e r = (e, r)
    go false e r = r

all_then : (P Q : List ℕ → Type 0) (xs : List (List ℕ)) → ((x : List ℕ) → P x → Q x) → AllByRecursion P xs → AllByRecursion Q xs
all_then P Q [] f a = tt
all_then P Q (x ∷ xs) f a = (f x a.0, all_then P Q xs f a.1)

sorted_append : (xs ys : List (List ℕ)) → IsStrictlySortedBy (slice_cmp nat_cmp) xs → IsStrictlySortedBy (slice_cmp nat_cmp) ys → AllByRecursion (λ x. AllByRecursion (λ y. order x y ≡ Less) ys) xs → IsStrictlySortedBy (slice_cmp nat_cmp) (xs ++ ys)
unfolding IsStrictlySortedBy
sorted_append [] ys s t a = t
sorted_append (x ∷ xs) ys s t a = (all_append (λ y. order x y ≡ Less) xs ys s.0 a.0, sorted_append xs ys s.1 t a.1)

filter_keys : {A : Type 0} (t : List ℕ → Bool) (es : List (Entry A)) → keys_of (filter (λ e. t e.key) es) ≡ filter t (keys_of es)
filter_keys t [] = refl
filter_keys {A} t (x ∷ es) = go (t x.key) ∙ ap (λ r. cond (t x.key) (x.key ∷ r) r) (filter_keys t es)
  where
    go : (b : Bool) → keys_of (cond b (x ∷ filter (λ (e : Entry A). t e.key) es) (filter (λ e. t e.key) es)) ≡ cond b (x.key ∷ keys_of (filter (λ e. t e.key) es)) (keys_of (filter (λ e. t e.key) es))
    go true = refl
    go false = refl

module _ (keys : List (List ℕ)) (key : List ℕ) (k : IsKeyList keys) where
  abbrev lower : List (List ℕ)
  lower = filter (λ k. is_before k key) keys

  abbrev upper : List (List ℕ)
  upper = filter (λ k. is_before key k) keys

  upper_less : AllByRecursion (λ y. order key y ≡ Less) upper
  upper_less = all_then (λ y. is_before key y ≡ true) (λ y. order key y ≡ Less) upper (λ y e. lt_less _ e) (all_pass (λ y. is_before key y) keys)

  lower_less : AllByRecursion (λ x. order x key ≡ Less) lower
  lower_less = all_then (λ x. is_before x key ≡ true) (λ x. order x key ≡ Less) lower (λ x e. lt_less _ e) (all_pass (λ x. is_before x key) keys)

  across : (x : List ℕ) → order x key ≡ Less → AllByRecursion (λ y. order x y ≡ Less) upper
  across x e = all_then (λ y. order key y ≡ Less) (λ y. order x y ≡ Less) upper (λ y f. nat_list_cmp_total.trans x key y e f) upper_less

  lower_sorted : IsStrictlySortedBy (slice_cmp nat_cmp) lower
  lower_sorted = IsStrictlySortedBy-filter (slice_cmp nat_cmp) (λ k. is_before k key) keys k.ascending

  upper_sorted : IsStrictlySortedBy (slice_cmp nat_cmp) upper
  upper_sorted = IsStrictlySortedBy-filter (slice_cmp nat_cmp) (λ k. is_before key k) keys k.ascending

  abbrev Folded : List ℕ → Type 0
  Folded x = folded x ≡ x

  lower_folded : AllByRecursion Folded lower
  lower_folded = all_filter Folded (λ k. is_before k key) keys k.folded

  upper_folded : AllByRecursion Folded upper
  upper_folded = all_filter Folded (λ k. is_before key k) keys k.folded

  sorted_key : IsStrictlySortedBy (slice_cmp nat_cmp) (key ∷ upper)
  unfolding IsStrictlySortedBy
  sorted_key = (upper_less, upper_sorted)

  keys_with : folded key ≡ key → IsKeyList (lower ++ key ∷ upper)
  keys_with f = record {
    folded = all_append Folded lower (key ∷ upper) lower_folded (f, upper_folded);
    ascending = sorted_append lower (key ∷ upper) lower_sorted sorted_key (all_then (λ x. order x key ≡ Less) (λ x. AllByRecursion (λ y. order x y ≡ Less) (key ∷ upper)) lower (λ x e. (e, across x e)) lower_less);
  }

  keys_without : IsKeyList (lower ++ upper)
  keys_without = record {
    folded = all_append Folded lower upper lower_folded upper_folded;
    ascending = sorted_append lower upper lower_sorted upper_sorted (all_then (λ x. order x key ≡ Less) (λ x. AllByRecursion (λ y. order x y ≡ Less) upper) lower across lower_less);
  }

pub key_list_with : {A : Type 0} (es : List (Entry A)) (key : List ℕ) (w : A) → IsKeyList (keys_of es) → folded key ≡ key → IsKeyList (keys_of (with_key es key w))
key_list_with es key w k f =
    subst IsKeyList
    (sym (map_append (λ e. e.key) (before_key es key) (record { key = key; value = w } ∷ after_key es key) ∙ ap (λ r. r ++ key ∷ keys_of (after_key es key)) (filter_keys (λ k. is_before k key) es) ∙ ap (λ r. filter (λ k. is_before k key) (keys_of es) ++ key ∷ r) (filter_keys (λ k. is_before key k) es)))
    (keys_with (keys_of es) key k f)

pub key_list_without : {A : Type 0} (es : List (Entry A)) (key : List ℕ) → IsKeyList (keys_of es) → IsKeyList (keys_of (without_key es key))
key_list_without es key k =
    subst IsKeyList
    (sym (map_append (λ e. e.key) (before_key es key) (after_key es key) ∙ ap (λ r. r ++ keys_of (after_key es key)) (filter_keys (λ k. is_before k key) es) ∙ ap (λ r. filter (λ k. is_before k key) (keys_of es) ++ r) (filter_keys (λ k. is_before key k) es)))
    (keys_without (keys_of es) key k)

-- what values stand for changes no key
filter_meaning : (name : Naming) (t : List ℕ → Bool) (es : List (Entry Value)) → filter (λ e. t e.key) (map (entry_meaning name) es) ≡ map (entry_meaning name) (filter (λ e. t e.key) es)
filter_meaning name t [] = refl
filter_meaning name t (x ∷ es) = ap (λ r. cond (t x.key) (entry_meaning name x ∷ r) r) (filter_meaning name t es) ∙ go (t x.key)
  where
    go : (b : Bool) → cond b (entry_meaning name x ∷ map (entry_meaning name) (filter (λ e. t e.key) es)) (map (entry_meaning name) (filter (λ e. t e.key) es)) ≡ map (entry_meaning name) (cond b (x ∷ filter (λ e. t e.key) es) (filter (λ e. t e.key) es))
    go true = refl
    go false = refl

pub with_key_meaning : (name : Naming) (es : List (Entry Value)) (key : List ℕ) (w : Value) → map (entry_meaning name) (with_key es key w) ≡ with_key (map (entry_meaning name) es) key (meaning name w)
with_key_meaning name es key w =
    map_append (entry_meaning name) (before_key es key) (record { key = key; value = w } ∷ after_key es key)
    ∙ ap (λ r. r ++ record { key = key; value = meaning name w } ∷ map (entry_meaning name) (after_key es key)) (sym (filter_meaning name (λ k. is_before k key) es))
    ∙ ap (λ r. before_key (map (entry_meaning name) es) key ++ record { key = key; value = meaning name w } ∷ r) (sym (filter_meaning name (λ k. is_before key k) es))

pub without_key_meaning : (name : Naming) (es : List (Entry Value)) (key : List ℕ) → map (entry_meaning name) (without_key es key) ≡ without_key (map (entry_meaning name) es) key
without_key_meaning name es key =
    map_append (entry_meaning name) (before_key es key) (after_key es key)
    ∙ ap (λ r. r ++ map (entry_meaning name) (after_key es key)) (sym (filter_meaning name (λ k. is_before k key) es))
    ∙ ap (λ r. before_key (map (entry_meaning name) es) key ++ r) (sym (filter_meaning name (λ k. is_before key k) es))
