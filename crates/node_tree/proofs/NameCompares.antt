-- The comparison of two names byte by byte, in any case of their letters.
use Rattle.std.proofs.Common.{◌≡◌, ℕ, suc, ◌+◌, ◌<◌, ◌≤◌, List, [], ◌∷◌, length, drop, get_or, drop-cons, refl, sym, ap, ap₂, ◌∙◌, subst, arith}
use Rattle.std.specs.Ordering.{nat_cmp, ordering_then}
use Rattle.std.specs.declared.cmp.Ordering.{Ordering}
use Rattle.std.specs.declared.cmp.Ordering.TheVariants.{Less, Equal, Greater}
use Rattle.std.specs.Char.{to_ascii_lowercase}
use Rattle.std.proofs.lemmas.Bool.Decides.{nat_tests}
use Rattle.std.proofs.lemmas.Grind.{common_steps}
use Rattle.std.proofs.lemmas.List.{drop_all, get_or-map, length-map}
use Rattle.chan_values.specs.Folded.{folded, folded_byte}
use Rattle.node_tree.specs.NameOrder.{name_cmp}

lower_is : (b : ℕ) → to_ascii_lowercase b ≡ folded_byte b
lower_is b = grind (arith, common_steps, nat_tests)

past : (name : List ℕ) (at : ℕ) → length name ≤ at → drop at (folded name) ≡ []
past name at l = drop_all at (folded name) (let q = length-map name folded_byte in omega arith)

here : (name : List ℕ) (at x : ℕ) → at < length name → x ≡ to_ascii_lowercase (get_or name at 0) → drop at (folded name) ≡ x ∷ drop (at + 1) (folded name)
here name at x h e =
    let next : suc at ≡ at + 1 = omega arith in
    drop-cons (folded name) at 0 (let q = length-map name folded_byte in omega arith)
    ∙ ap₂ (λ y n. y ∷ drop n (folded name)) (get_or-map folded_byte name at 0 0 h ∙ sym (lower_is (get_or name at 0)) ∙ sym e) next

module _ (name other : List ℕ) (at : ℕ) (so_far : name_cmp (folded name) (folded other) ≡ name_cmp (drop at (folded name)) (drop at (folded other))) where
  pub longer : at < length name → length other ≤ at → Greater ≡ name_cmp (folded name) (folded other)
  longer h l = sym (so_far ∙ ap₂ name_cmp (here name at _ h refl) (past other at l))

  pub shorter : length name ≤ at → at < length other → Less ≡ name_cmp (folded name) (folded other)
  shorter l h = sym (so_far ∙ ap₂ name_cmp (past name at l) (here other at _ h refl))

  module _ (x y : ℕ) (o : Ordering) (h : at < length name) (l : at < length other) (one : x ≡ to_ascii_lowercase (get_or name at 0)) (two : y ≡ to_ascii_lowercase (get_or other at 0)) (compared : o ≡ nat_cmp x y) where
    step : name_cmp (folded name) (folded other) ≡ ordering_then o (name_cmp (drop (at + 1) (folded name)) (drop (at + 1) (folded other)))
    step =
        so_far
        ∙ ap₂ name_cmp (here name at x h one) (here other at y l two)
        ∙ ap (λ p. ordering_then p (name_cmp (drop (at + 1) (folded name)) (drop (at + 1) (folded other)))) (sym compared)

    pub is_less : Less ≡ o → Less ≡ name_cmp (folded name) (folded other)
    is_less e = sym (step ∙ ap (λ p. ordering_then p (name_cmp (drop (at + 1) (folded name)) (drop (at + 1) (folded other)))) (sym e))

    pub is_greater : Greater ≡ o → Greater ≡ name_cmp (folded name) (folded other)
    is_greater e = sym (step ∙ ap (λ p. ordering_then p (name_cmp (drop (at + 1) (folded name)) (drop (at + 1) (folded other)))) (sym e))

    pub goes_on : Equal ≡ o → name_cmp (folded name) (folded other) ≡ name_cmp (drop (at + 1) (folded name)) (drop (at + 1) (folded other))
    goes_on e = step ∙ ap (λ p. ordering_then p (name_cmp (drop (at + 1) (folded name)) (drop (at + 1) (folded other)))) (sym e)
