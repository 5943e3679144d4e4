-- A draft's names, in order.
use Rattle.std.proofs.Common.{◌≡◌, ℕ, cond, List, [], ◌∷◌, Some, String, map, refl, sym, ap, ◌∙◌, string_bytes}
use Rattle.std.specs.BTreeMap.{is_at}
use Rattle.std.specs.Cmp.Lexicographic.{slice_cmp}
use Rattle.std.specs.List.{AllByRecursion}
use Rattle.std.specs.List.Sorted.{IsStrictlySortedBy}
use Rattle.std.specs.Map.{keys_of, lookup}
use Rattle.std.specs.Ordering.{nat_cmp}
use Rattle.std.specs.declared.cmp.Ordering.TheVariants.{Less}
use Rattle.std.proofs.lemmas.Cmp.{nat_list_eq_equiv}
use Rattle.std.proofs.lemmas.Map.Text.{is_eq-slice_cmp}
use Rattle.ordered_names.specs.Values.{value_of, IsAscending}

module _ {Y V : Type 0} where
  -- an entry as a name with a value
  abbrev pub entry_of : String Y × V → List ℕ × V
  entry_of e = (string_bytes e.0, e.1)

  all_below : (name : List ℕ) (es : List (String Y × V)) → AllByRecursion (λ y. slice_cmp nat_cmp name (string_bytes y) ≡ Less) (keys_of es) → AllByRecursion (λ y. slice_cmp nat_cmp name y ≡ Less) (keys_of (map entry_of es))
  all_below name [] all = tt
  all_below name (e ∷ es) all = (all.0, all_below name es all.1)

  pub ascending_from : (es : List (String Y × V)) → IsStrictlySortedBy (λ x y. slice_cmp nat_cmp (string_bytes x) (string_bytes y)) (keys_of es) → IsAscending (map entry_of es)
  unfolding IsStrictlySortedBy
  ascending_from [] up = tt
  ascending_from (e ∷ es) up = (all_below (string_bytes e.0) es up.0, ascending_from es up.1)

  pub same_values : (es : List (String Y × V)) (name : List ℕ) → value_of (map entry_of es) name ≡ lookup (is_at (λ k. slice_cmp nat_cmp name (string_bytes k))) es
  same_values [] name = refl
  same_values (e ∷ es) name =
      ap (λ b. cond b (Some e.1) (value_of (map entry_of es) name)) (nat_list_eq_equiv.symm (string_bytes e.0) name ∙ sym (is_eq-slice_cmp name (string_bytes e.0)))
      ∙ ap (λ o. cond (is_at (λ k. slice_cmp nat_cmp name (string_bytes k)) e.0) (Some e.1) o) (same_values es name)
