-- What a binary search finds among names that ascend.
use Rattle.std.proofs.Common.{◌≡◌, ◌⊎◌, inl, inr, ℕ, zero, suc, ◌<◌, ◌≤◌, Bool, true, false, cond, List, [], ◌∷◌, Some, None, Result, Ok, Err, IfOk, IfErr, length, drop, leb, get_or, refl, sym, ap, ◌∙◌, subst, arith, add-one}
use Rattle.std.specs.Prelude.{filter, slice_get}
use Rattle.std.specs.Cmp.Lexicographic.{slice_cmp}
use Rattle.std.specs.List.{AllByRecursion}
use Rattle.std.specs.List.Sorted.{IsBinarySearchResult, IsNonDecreasingBy, IsPartitionedBy, IsPartitionPoint, IsSearchInRange, IsStrictlySortedBy}
use Rattle.std.specs.Map.{keys_of}
use Rattle.std.specs.Ordering.{is_eq, is_le, is_lt, nat_cmp, ordering_index, ordering_reverse}
use Rattle.std.specs.declared.cmp.Ordering.{Ordering}
use Rattle.std.specs.declared.cmp.Ordering.TheVariants.{Less, Equal, Greater}
use Rattle.std.proofs.lemmas.Cmp.{alike_right, nat_list_cmp_total}
use Rattle.std.proofs.lemmas.List.Sorted.{IsPartitionedBy-leb, searchable_from_sorted}
use Rattle.std.proofs.lemmas.Map.Text.{is_eq-slice_cmp}
use Rattle.ordered_names.specs.Values.{is_before, value_of, IsAscending, IsAt}

abbrev compared : List ℕ → List ℕ → Ordering
compared a b = slice_cmp nat_cmp a b

lt_or : (n m : ℕ) → (n < m) ⊎ (m ≤ n)
lt_or zero zero = inr (omega arith)
lt_or zero (suc m) = inl (omega arith)
lt_or (suc n) zero = inr (omega arith)
lt_or (suc n) (suc m) = elim (lt_or n m) [ inl l ↦ inl (omega arith) | inr l ↦ inr (omega arith) ]

pub none_ascend : (V : Type 0) → IsAscending {V = V} []
unfolding IsStrictlySortedBy
none_ascend V = tt

module _ {V : Type 0} where
  -- the first name is below each later one
  first_less : (name : List ℕ) (l : List (List ℕ × V)) → AllByRecursion (λ y. compared name y ≡ Less) (keys_of l) → (i : ℕ) (d : List ℕ × V) → i < length l → compared name (get_or l i d).0 ≡ Less
  first_less name [] all i d h = absurd (omega arith)
  first_less name (e ∷ l) all zero d h = all.0
  first_less name (e ∷ l) all (suc i) d h = first_less name l all.1 i d (omega arith)

  found_at : (l : List (List ℕ × V)) → IsAscending l → (name : List ℕ) (at : ℕ) (d : List ℕ × V) → at < length l → compared (get_or l at d).0 name ≡ Equal → Some (get_or l at d).1 ≡ value_of l name
  unfolding IsStrictlySortedBy
  found_at [] up name at d h same = absurd (omega arith)
  found_at (e ∷ l) up name zero d h same = ap (λ b. cond b (Some e.1) (value_of l name)) (sym (sym (is_eq-slice_cmp e.0 name) ∙ ap is_eq same))
  found_at (e ∷ l) up name (suc i) d h same =
      let here : i < length l = omega arith in
      let below : compared e.0 name ≡ Less = sym (alike_right nat_list_cmp_total (get_or l i d).0 name e.0 same) ∙ first_less e.0 l up.0 i d here in
      found_at l up.1 name i d here same ∙ ap (λ b. cond b (Some e.1) (value_of l name)) (sym (sym (is_eq-slice_cmp e.0 name) ∙ ap is_eq below))

  not_found : (l : List (List ℕ × V)) (name : List ℕ) → ((k : ℕ) (d : List ℕ × V) → k < length l → is_eq (compared (get_or l k d).0 name) ≡ false) → value_of l name ≡ None
  not_found [] name none = refl
  not_found (e ∷ l) name none =
      ap (λ b. cond b (Some e.1) (value_of l name)) (sym (is_eq-slice_cmp e.0 name) ∙ none 0 e (omega arith))
      ∙ not_found l name (λ k d h. none (suc k) d (omega arith))

  neighbours : (l : List (List ℕ × V)) → IsAscending l → (k : ℕ) (d : List ℕ × V) → suc k < length l → is_lt (compared (get_or l (suc k) d).0 (get_or l k d).0) ≡ false
  unfolding IsStrictlySortedBy
  neighbours [] up k d h = absurd (omega arith)
  neighbours (e ∷ []) up k d h = absurd (omega arith)
  neighbours (e ∷ (f ∷ l)) up zero d h = ap is_lt (nat_list_cmp_total.antisymm f.0 e.0 ∙ ap ordering_reverse up.0.0)
  neighbours (e ∷ (f ∷ l)) up (suc k) d h = neighbours (f ∷ l) up.1 k d (omega arith)

  rising : (l : List (List ℕ × V)) → IsAscending l → (name : List ℕ) → IsNonDecreasingBy (λ e. ordering_index (compared e.0 name)) l
  rising l up name = searchable_from_sorted nat_list_cmp_total (λ (e : List ℕ × V). e.0) l name (λ k d low h. subst (λ j. is_lt (compared (get_or l j d).0 (get_or l k d).0) ≡ false) (sym (add-one k)) (neighbours l up k d (omega arith)))

  pub searched : (l : List (List ℕ × V)) → IsAscending l → (name : List ℕ) (r : Result ℕ ℕ) → IsSearchInRange r (length l) → IsBinarySearchResult (λ e. compared e.0 name) l r → record { found : IfOk r (IsAt l name); absent : IfErr r (λ gap. value_of l name ≡ None) }
  searched l up name (Ok at) bound equal = record { found = record { within = bound; is = λ d. found_at l up name at d bound (equal d) }; absent = tt }
  searched l up name (Err gap) bound parted =
      let parts = parted (rising l up name) in
      record { found = tt; absent = not_found l name (λ k d h. elim (lt_or k gap) [ inl before ↦ ap is_eq (parts.0 k d (omega arith) before) | inr behind ↦ ap is_eq (parts.1 k d behind h) ]) }

-- ---- the names behind a name

le_index : (o : Ordering) → is_le o ≡ leb (ordering_index o) 1
le_index Less = refl
le_index Equal = refl
le_index Greater = refl

turned_behind : (o : Ordering) → is_le o ≡ true → is_lt (ordering_reverse o) ≡ false
turned_behind Less h = refl
turned_behind Equal h = refl
turned_behind Greater h = absurd cc

turned_before : (o : Ordering) → is_le o ≡ false → is_lt (ordering_reverse o) ≡ true
turned_before Less h = absurd cc
turned_before Equal h = absurd cc
turned_before Greater h = refl

module _ {V : Type 0} where
  -- where a test fails below a place and holds from it on, the names that pass are those from it on
  passing_behind : (test : List ℕ → Bool) (l : List (List ℕ × V)) (i : ℕ) → ((k : ℕ) (d : List ℕ × V) → k < i → k < length l → test (get_or l k d).0 ≡ false) → ((k : ℕ) (d : List ℕ × V) → i ≤ k → k < length l → test (get_or l k d).0 ≡ true)
      → drop i (keys_of l) ≡ filter test (keys_of l)
  passing_behind test [] zero fails holds = refl
  passing_behind test [] (suc i) fails holds = refl
  passing_behind test (x ∷ l) zero fails holds =
      ap (λ xs. x.0 ∷ xs) (passing_behind test l zero (λ k d h w. absurd (omega arith)) (λ k d h w. holds (suc k) d (omega arith) (omega arith)))
      ∙ ap (λ b. cond b (x.0 ∷ filter test (keys_of l)) (filter test (keys_of l))) (sym (holds zero x (omega arith) (omega arith)))
  passing_behind test (x ∷ l) (suc i) fails holds =
      passing_behind test l i (λ k d h w. fails (suc k) d (omega arith) (omega arith)) (λ k d h w. holds (suc k) d (omega arith) (omega arith))
      ∙ ap (λ b. cond b (x.0 ∷ filter test (keys_of l)) (filter test (keys_of l))) (sym (fails zero x (omega arith) (omega arith)))

  pub parted : (l : List (List ℕ × V)) → IsAscending l → (name : List ℕ) → IsPartitionedBy (λ e. is_le (compared e.0 name)) l
  parted l up name i j d le h is = le_index (compared (get_or l i d).0 name) ∙ IsPartitionedBy-leb (λ (e : List ℕ × V). ordering_index (compared e.0 name)) l 1 (rising l up name) i j d le h (sym (le_index (compared (get_or l j d).0 name)) ∙ is)

  pub names_behind : (l : List (List ℕ × V)) (name : List ℕ) (i : ℕ) → IsPartitionPoint (λ e. is_le (compared e.0 name) ≡ true) (λ e. is_le (compared e.0 name) ≡ false) l i → drop i (keys_of l) ≡ filter (is_before name) (keys_of l)
  names_behind l name i point =
      passing_behind (is_before name) l i
      (λ k d h w. ap is_lt (nat_list_cmp_total.antisymm name (get_or l k d).0) ∙ turned_behind (compared (get_or l k d).0 name) (point.0 k d (omega arith) h))
      (λ k d h w. ap is_lt (nat_list_cmp_total.antisymm name (get_or l k d).0) ∙ turned_before (compared (get_or l k d).0 name) (point.1 k d h w))

pub slice_get_drop : {A : Type 0} (xs : List A) (i : ℕ) → slice_get xs i ≡ slice_get (drop i xs) 0
slice_get_drop [] zero = refl
slice_get_drop [] (suc i) = refl
slice_get_drop (x ∷ xs) zero = refl
slice_get_drop (x ∷ xs) (suc i) = slice_get_drop xs i
