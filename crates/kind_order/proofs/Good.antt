-- An order that is built place by place has each once, behind those that it names.
use Rattle.std.proofs.Common.{◌≡◌, ℕ, zero, suc, ◌<◌, ◌≤◌, ◌⊎◌, inl, inr, List, [], ◌∷◌, ◌++◌, Some, slice_get, length, take, refl, sym, ap, ◌∙◌, subst, arith}
use Rattle.std.specs.List.{Contains}
use Rattle.std.proofs.lemmas.List.{take-append-le}
use Rattle.std.proofs.lemmas.List.Elements.{Contains-push_cases}
use Rattle.folder_rules.specs.declared.component.PathedComponent.{PathedComponent}
use Rattle.component_cycles.proofs.Members.{no_member}
use Rattle.kind_order.specs.GoodOrder.{HasNoCycle, IsGoodOrder}
use Rattle.kind_order.specs.Named.{named_at}
use Rattle.kind_order.specs.Order.{kind_order}
use Rattle.kind_order.proofs.Built.{Built, start, next, first_put}
use Rattle.kind_order.proofs.Listed.{Differ, none_differ, differ_behind, at_most, at_least}
use Rattle.kind_order.proofs.Ways.{without_cycle}

-- an item of a list with one more at the end
get_behind : {A : Type 0} (xs : List A) (y : A) (at : ℕ) (x : A) → slice_get (xs ++ y ∷ []) at ≡ Some x → ((at < length xs) × (slice_get xs at ≡ Some x)) ⊎ ((at ≡ length xs) × (y ≡ x))
get_behind [] y zero x e = inr (refl, cc)
get_behind [] y (suc k) x e = absurd cc
get_behind (z ∷ zs) y zero x e = inl (omega arith, e)
get_behind {A} (z ∷ zs) y (suc k) x e = go (get_behind zs y k x e)
  where
    go : ((k < length zs) × (slice_get zs k ≡ Some x)) ⊎ ((k ≡ length zs) × (y ≡ x)) → ((suc k < length (z ∷ zs)) × (slice_get zs k ≡ Some x)) ⊎ ((suc k ≡ length (z ∷ zs)) × (y ≡ x))
    go (inl w) = let l = w.0 in inl (omega arith, w.1)
    go (inr w) = inr (ap suc w.0, w.1)

module _ (count : ℕ) (named : ℕ → List ℕ) where
  only : (order : List ℕ) → Built count named order → (place : ℕ) → Contains order place → place < count
  only order start place m = absurd (no_member place m)
  only order (next {order = before} {place = last} b h new named_before) place m = go (λ n. only before b place n) (Contains-push_cases before last place m)
    where
      go : (Contains before place → place < count) → Contains before place ⊎ (last ≡ place) → place < count
      go r (inl n) = r n
      go r (inr e) = subst (λ k. k < count) e h

  once : (order : List ℕ) → Built count named order → Differ order
  once order start = none_differ
  once order (next {order = before} {place = last} b h new named_before) = differ_behind before last new (once before b)

  behind : (order : List ℕ) → Built count named order → (at place other : ℕ) → slice_get order at ≡ Some place → Contains (named place) other → Contains (take at order) other
  behind order start at place other e n = absurd cc
  behind order (next {order = before} {place = last} b h new named_before) at place other e n = go (λ g. behind before b at place other g n) (get_behind before last at place e)
    where
      go : (slice_get before at ≡ Some place → Contains (take at before) other) → ((at < length before) × (slice_get before at ≡ Some place)) ⊎ ((at ≡ length before) × (last ≡ place)) → Contains (take at (before ++ last ∷ [])) other
      go r (inl w) = let l = w.0 in let k : at ≤ length before = omega arith in
          subst (λ t. Contains t other) (sym (take-append-le at before (last ∷ []) k)) (r w.1)
      go r (inr w) = let k : at ≤ length before = omega (arith, w.0) in
          subst (λ t. Contains t other) (sym (take-append-le at before (last ∷ []) k ∙ whole before at w.0)) (named_before other (subst (λ p. Contains (named p) other) (sym w.1) n))
        where
          whole : (xs : List ℕ) (k : ℕ) → k ≡ length xs → take k xs ≡ xs
          whole xs k f = ap (λ m. take m xs) f ∙ full xs
            where
              full : (ys : List ℕ) → take (length ys) ys ≡ ys
              full [] = refl
              full (y ∷ ys) = ap (λ l. y ∷ l) (full ys)

pub good_order : (components : List PathedComponent) → HasNoCycle components → IsGoodOrder components (kind_order components)
unfolding kind_order
good_order components none =
    let count = length components in
    let named = named_at components in
    let put = first_put count named (without_cycle components none) count (omega arith) in
    let order = kind_order components in
    let below = only count named order put.built in
    let differ = once count named order put.built in
    let most = at_most count order differ below in
    let least = at_least count order put.all in
    record {
      size = omega (arith, most, least);
      only = below;
      all = put.all;
      once = differ;
      behind = behind count named order put.built;
    }
