-- The first field of a name, by the order of the names.
use Rattle.std.proofs.Common.{◌≡◌, ℕ, ◌<◌, ◌≤◌, Bool, true, false, cond, ltb, List, [], ◌∷◌, length, get_or, position, find, Option, Some, None, slice_get, option_copied, Decides, lt-ltb, le-ltb, ◌⊎◌, inl, inr, refl, sym, ap, ◌∙◌, subst, arith}
use Rattle.std.specs.List.{position_or_len}
use Rattle.std.specs.Str.{bytes_eq}
use Rattle.std.specs.declared.cmp.Ordering.{Ordering}
use Rattle.std.specs.declared.cmp.Ordering.TheVariants.{Less, Equal}
use Rattle.std.proofs.lemmas.Bool.{cases_lt, cases_order}
use Rattle.std.proofs.lemmas.Cmp.{nat_list_cmp_total, tied_itself}
use Rattle.std.proofs.lemmas.List.{length-map}
use Rattle.std.proofs.lemmas.List.Folds.{find_at}
use Rattle.std.proofs.lemmas.List.Sums.{position_or_len_is}
use Rattle.std.proofs.lemmas.Option.{slice_get_past, slice_get_read}
use Rattle.std.proofs.lemmas.Slice.Eq.{bytes_eq-Decides}
use Rattle.chan_values.specs.Folded.{folded}
use Rattle.field_types.specs.Words.{is_alike}
use Rattle.node_tree.specs.declared.field.Field.{Field}
use Rattle.node_tree.specs.NameOrder.{names_of, name_at, name_cmp, Leads, IsNameOrder, IsNamedAt, IsNameGap}
use Rattle.node_tree.proofs.Firsts.{within_by, past_by}
use Rattle.node_tree.proofs.NameSearches.{name_here, leads_inside}

-- a name isn't before itself
not_itself : (a b : List ℕ) → a ≡ b → name_cmp a b ≡ Less → ⊥
not_itself a b e l = let s = tied_itself nat_list_cmp_total a in let m : name_cmp a a ≡ Less = ap (name_cmp a) e ∙ l in cc

-- the order leads to a name at one place
pub one_place : (names : List (List ℕ)) (order : List ℕ) (i j : ℕ) → IsNameOrder names order → i < length order → j < length order → name_at names order i ≡ name_at names order j → i ≡ j
one_place names order i j o h k e = elim (cases_order i j) [
  | inl q ↦ q
  | inr (inl l) ↦ absurd (not_itself _ _ e (o.ascending i j l k))
  | inr (inr l) ↦ absurd (not_itself _ _ (sym e) (o.ascending j i l h))
]

-- no field before the one at which the order has a name has this name
pub none_before : (names : List (List ℕ)) (order : List ℕ) (name : List ℕ) (k at : ℕ) → IsNameOrder names order → IsNamedAt names order name k → at < get_or order k 0 → get_or names at [] ≡ name → ⊥
none_before names order name k at o is l e =
    let inside = o.inside k is.within in
    let lead = o.leads at (omega arith) in
    let q : lead.k ≡ k = one_place names order lead.k k o lead.within is.within (lead.same ∙ e ∙ sym is.same) in
    let r : get_or order lead.k 0 ≡ get_or order k 0 = ap (λ i. get_or order i 0) q in
    let early = lead.early in
    absurd (omega arith)

-- no field has a name that the order lacks
pub none_at_gap : (names : List (List ℕ)) (order : List ℕ) (name : List ℕ) (k at : ℕ) → IsNameOrder names order → IsNameGap names order name k → at < length names → get_or names at [] ≡ name → ⊥
none_at_gap names order name k at o gap h e =
    let lead = o.leads at h in
    elim (cases_lt lead.k k) [
      | inl l ↦ not_itself _ _ (lead.same ∙ e) (gap.before lead.k l)
      | inr l ↦ not_itself _ _ (sym (lead.same ∙ e)) (gap.after lead.k l lead.within)
    ]

false_by : (b : Bool) → (b ≡ true → ⊥) → b ≡ false
false_by true f = absurd (f refl)
false_by false f = refl

module _ (items : List Field) (name : List ℕ) where
  has_name : (at : ℕ) (d : Field) → at < length items → get_or (names_of items) at [] ≡ folded name → is_alike (get_or items at d).id name ≡ true
  unfolding is_alike
  has_name at d h e = (bytes_eq-Decides (folded (get_or items at d).id) (folded name)).1 (sym (name_here items at d h) ∙ e)

  lacks_name : (at : ℕ) (d : Field) → at < length items → (get_or (names_of items) at [] ≡ folded name → ⊥) → is_alike (get_or items at d).id name ≡ false
  unfolding is_alike
  lacks_name at d h n = false_by _ (λ e. n (name_here items at d h ∙ (bytes_eq-Decides (folded (get_or items at d).id) (folded name)).0 e))

some_position : {A : Type 0} (p : A → Bool) (xs : List A) (at : ℕ) → at < length xs → position_or_len p xs ≡ at → position p xs ≡ Some at
some_position p xs at h e = ap (λ n. cond (ltb n (length xs)) (Some n) None) e ∙ ap (λ b. cond b (Some at) None) (lt-ltb at (length xs) h)

none_position : {A : Type 0} (p : A → Bool) (xs : List A) → position_or_len p xs ≡ length xs → position p xs ≡ None
none_position p xs e = ap (λ n. cond (ltb n (length xs)) (Some n) None) e ∙ ap (λ b. cond b (Some (length xs)) None) (le-ltb (length xs) (length xs) (omega arith))

first_named : (items : List Field) (order : List ℕ) (name : List ℕ) (k : ℕ) (d : Field) → IsNameOrder (names_of items) order → IsNamedAt (names_of items) order (folded name) k → position (λ f. is_alike f.id name) items ≡ Some (get_or order k 0)
first_named items order name k d o is =
    let h = leads_inside items order k o is.within in
    some_position (λ f. is_alike f.id name) items (get_or order k 0) h (position_or_len_is (λ f. is_alike f.id name) items (get_or order k 0) d (omega arith)
    (λ at l. lacks_name items name at d (omega arith) (none_before (names_of items) order (folded name) k at o is l))
    (λ l. has_name items name (get_or order k 0) d l is.same))

pub place_named : (items : List Field) (order : List ℕ) (name : List ℕ) (k : ℕ) → IsNameOrder (names_of items) order → IsNamedAt (names_of items) order (folded name) k → position (λ f. is_alike f.id name) items ≡ Some (get_or order k 0)
place_named [] order name k o is = let h = leads_inside [] order k o is.within in absurd (omega arith)
place_named (x ∷ items) order name k o is = first_named (x ∷ items) order name k x o is

none_named : (items : List Field) (order : List ℕ) (name : List ℕ) (k : ℕ) (d : Field) → IsNameOrder (names_of items) order → IsNameGap (names_of items) order (folded name) k → position (λ f. is_alike f.id name) items ≡ None
none_named items order name k d o gap =
    let q = length-map items (λ f. folded f.id) in
    none_position (λ f. is_alike f.id name) items (position_or_len_is (λ f. is_alike f.id name) items (length items) d (omega arith)
    (λ at l. lacks_name items name at d l (none_at_gap (names_of items) order (folded name) k at o gap (omega arith)))
    (λ l. absurd (omega arith)))

pub gap_named : (items : List Field) (order : List ℕ) (name : List ℕ) (k : ℕ) → IsNameOrder (names_of items) order → IsNameGap (names_of items) order (folded name) k → position (λ f. is_alike f.id name) items ≡ None
gap_named [] order name k o gap = refl
gap_named (x ∷ items) order name k o gap = none_named (x ∷ items) order name k x o gap

-- ---- the field at that place

pub found_by : {A : Type 0} (p : A → Bool) (xs : List A) (at : ℕ) (x : A) → position p xs ≡ Some at → x ≡ get_or xs at x → Some x ≡ find p xs
found_by p xs at x e r =
    let h = within_by p xs at e in
    sym (find_at p xs ∙ slice_get_read xs (length xs) (position_or_len p xs) x refl h.1 (r ∙ ap (λ i. get_or xs i x) (sym h.0)))

pub missed_by : {A : Type 0} (p : A → Bool) (xs : List A) → position p xs ≡ None → None ≡ find p xs
missed_by p xs e = sym (find_at p xs ∙ slice_get_past xs (position_or_len p xs) (past_by p xs e))
