-- The names of the keys of a set.
use Rattle.std.proofs.Common.{◌≡◌, ℕ, zero, suc, ◌+◌, ◌<◌, ◌≤◌, Bool, true, false, true≢false, List, [], ◌∷◌, ◌++◌, length, map, take, get_or, slice_get, Some, nat_eq, if◌then◌else◌, ◌||◌, refl, sym, ap, ◌∙◌, subst}
use Rattle.std.specs.List.{list_any, IsDistinct, AllByRecursion}
use Rattle.std.specs.Option.{option_map}
use Rattle.std.specs.Cmp.Lexicographic.{pointwise, same_text}
use Rattle.std.proofs.lemmas.Cmp.{nat_list_eq_equiv}
use Rattle.std.proofs.lemmas.List.{map-append, take_more, take_all}
use Rattle.std.proofs.lemmas.Map.Keys.{IsDistinct-head, IsDistinct-tail}
use Rattle.std.proofs.lemmas.Option.{slice_get-map}
use Rattle.lowering_parts.specs.Names.{is_name, with_name, AreDistinct}

module _ {V : Type 0} (f : V → List ℕ) where
  -- the name at the place of a key
  pub stored_at : (ks : List V) (n : ℕ) (k : V) (x : List ℕ) → slice_get ks n ≡ Some k → pointwise nat_eq x (f k) ≡ true → slice_get (map f ks) n ≡ Some x
  stored_at ks n k x at e = slice_get-map f ks n ∙ ap (option_map f) at ∙ ap Some (sym (same_text x (f k) (sym e)))

  any_named : (x : List ℕ) (ks : List V) → list_any (is_name x) (map f ks) ≡ list_any (λ k. pointwise nat_eq x (f k)) ks
  any_named x [] = refl
  any_named x (k ∷ ks) = ap (λ b. pointwise nat_eq x (f k) || b) (any_named x ks)

  -- the names after an insert
  pub names_after : (ks : List V) (v : V) → map f (if list_any (λ k. pointwise nat_eq (f v) (f k)) ks then ks else ks ++ v ∷ []) ≡ with_name (map f ks) (f v)
  names_after ks v = by (list_any (λ k. pointwise nat_eq (f v) (f k)) ks) ∙ ap (λ b. if b then map f ks else map f ks ++ f v ∷ []) (sym (any_named (f v) ks))
    where
      by : (b : Bool) → map f (if b then ks else ks ++ v ∷ []) ≡ (if b then map f ks else map f ks ++ f v ∷ [])
      by true = refl
      by false = map-append f ks (v ∷ [])

  absent : (k : V) (ks : List V) (b : ℕ) → AllByRecursion (λ y. pointwise nat_eq (f k) (f y) ≡ false) ks → slice_get (map f ks) b ≡ Some (f k) → ⊥
  absent k [] b h e = absurd (cc)
  absent k (y ∷ ys) zero h e =
      let same : f y ≡ f k = cc in
      true≢false (sym (nat_list_eq_equiv.refl (f k)) ∙ ap (λ z. pointwise nat_eq (f k) z) (sym same) ∙ h.0)
  absent k (y ∷ ys) (suc b) h e = absent k ys b h.1 e

  -- no two keys have one name
  pub names_distinct : (ks : List V) → IsDistinct (λ x y. pointwise nat_eq (f x) (f y)) ks → AreDistinct (map f ks)
  names_distinct [] h a b x at there = absurd (cc)
  names_distinct (k ∷ ks) h zero zero x at there = refl
  names_distinct (k ∷ ks) h zero (suc b) x at there =
      let same : f k ≡ x = cc in
      absurd (absent k ks b (IsDistinct-head _ k ks h) (there ∙ ap Some (sym same)))
  names_distinct (k ∷ ks) h (suc a) zero x at there =
      let same : f k ≡ x = cc in
      absurd (absent k ks a (IsDistinct-head _ k ks h) (at ∙ ap Some (sym same)))
  names_distinct (k ∷ ks) h (suc a) (suc b) x at there = ap suc (names_distinct ks (IsDistinct-tail _ k ks h) a b x at there)

  -- one more name of the keys
  pub names_more : (names names' : List (List ℕ)) (ks : List V) (i : ℕ) (k : V) (x : List ℕ) → i < length ks → k ≡ get_or ks i k → names ≡ map f (take i ks) → x ≡ f k → names' ≡ names ++ x ∷ []
      → names' ≡ map f (take (i + 1) ks)
  names_more names names' ks i k x h at was is new =
      new ∙ ap (λ l. l ++ x ∷ []) was ∙ ap (λ y. map f (take i ks) ++ y ∷ []) is
      ∙ sym (map-append f (take i ks) (k ∷ [])) ∙ ap (λ y. map f (take i ks ++ y ∷ [])) at
      ∙ ap (map f) (sym (take_more ks i k h))

  -- the loop is through
  pub all_distinct : (names : List (List ℕ)) (keys ks : List V) (i : ℕ) → length ks ≤ i → ks ≡ keys → names ≡ map f (take i ks) → IsDistinct (λ x y. pointwise nat_eq (f x) (f y)) keys → AreDistinct names
  all_distinct names keys ks i h same was distinct =
      let is : map f keys ≡ names = sym (was ∙ ap (map f) (take_all i ks h ∙ same)) in
      subst AreDistinct is (names_distinct keys distinct)
