-- The kinds that a kind extends, one after another.
use Rattle.std.proofs.Common.{◌≡◌, ℕ, zero, suc, ◌+◌, ◌-◌, ◌<◌, List, [], ◌∷◌, ◌++◌, Option, Some, None, sym, ap, ◌∙◌, append_assoc, arith}
use Rattle.std.specs.Prelude.{reverse, slice_get}
use Rattle.std.proofs.lemmas.List.{reverse-append}
use Rattle.field_types.specs.declared.plans.KindPlan.{KindPlan}
use Rattle.node_tree.specs.Making.{base_in, lineage}

pub over : (most : ℕ) (plans : List KindPlan) (o : Option ℕ) (rest all : List ℕ) → o ≡ None → lineage most plans o ++ rest ≡ all → rest ≡ all
over zero plans o rest all e is = is
over (suc most) plans o rest all e is = ap (λ q. lineage (suc most) plans q ++ rest) (sym e) ∙ is

pub further : (end i : ℕ) (plans : List KindPlan) (o next : Option ℕ) (here : ℕ) (places new all : List ℕ) → i < end → o ≡ Some here → next ≡ base_in (slice_get plans here) → new ≡ places ++ here ∷ [] → lineage (end - i) plans o ++ reverse places ≡ all → lineage (end - (i + 1)) plans next ++ reverse new ≡ all
further end i plans o next here places new all h e base more is =
    let left : end - i ≡ suc (end - (i + 1)) = omega arith in
    let rest : List ℕ = lineage (end - (i + 1)) plans (base_in (slice_get plans here)) in
    ap (λ q. lineage (end - (i + 1)) plans q ++ reverse new) base
    ∙ ap (λ l. rest ++ l) (ap reverse more ∙ reverse-append places (here ∷ []))
    ∙ sym (append_assoc rest (here ∷ []) (reverse places))
    ∙ ap (λ k. lineage k plans (Some here) ++ reverse places) (sym left)
    ∙ ap (λ q. lineage (end - i) plans q ++ reverse places) (sym e)
    ∙ is
