-- A search among keys that ascend.
use Rattle.std.proofs.Common.{◌≡◌, ℕ, zero, suc, ◌+◌, ◌<◌, ◌≤◌, List, [], ◌∷◌, length, map, drop, get_or, Some, None, Option, true, refl, sym, ap, ◌∙◌, subst, arith, ◌⊎◌, inl, inr}
use Rattle.std.specs.Prelude.{slice_get, option_map}
use Rattle.std.specs.Ordering.{nat_cmp, is_lt, ordering_reverse, ordering_then}
use Rattle.std.specs.declared.cmp.Ordering.{Ordering}
use Rattle.std.specs.declared.cmp.Ordering.TheVariants.{Less, Equal, Greater}
use Rattle.std.specs.Cmp.Lexicographic.{slice_cmp}
use Rattle.std.proofs.lemmas.Cmp.{nat_list_cmp_total}
use Rattle.std.proofs.lemmas.Option.{slice_get-map, slice_get-get_or, slice_get_within}
use Rattle.chan_values.specs.Portable.{IsKeyList}
use Rattle.heap_meaning.specs.Keys.{is_before, IsGap}
use Rattle.heap_meaning.proofs.Searching.{sorted_before}
use Rattle.heap_meaning.proofs.Lists.{lt_or}

less : (o : Ordering) → is_lt o ≡ true → o ≡ Less
less Less e = refl
less Equal e = absurd cc
less Greater e = absurd cc

-- the key is none of those below `low`, which are before it, and none of those from `high` on, which are after it
pub record Between (keys : List (List ℕ)) (key : List ℕ) (low high : ℕ) : Type 0 where
  pub order : low ≤ high
  pub within : high ≤ length keys
  pub before : (j : ℕ) (k : List ℕ) → j < low → slice_get keys j ≡ Some k → is_before k key ≡ true
  pub after : (j : ℕ) (k : List ℕ) → high ≤ j → slice_get keys j ≡ Some k → is_before key k ≡ true

pub at_first : (keys : List (List ℕ)) (key : List ℕ) (n : ℕ) → n ≡ length keys → Between keys key 0 n
at_first keys key n e = record {
  order = omega arith;
  within = omega arith;
  before = λ j k l. absurd (omega arith);
  after = λ j k l q. absurd (let w = slice_get_within keys j k q in omega arith);
}

module _ (keys : List (List ℕ)) (key : List ℕ) (low high : ℕ) (b : Between keys key low high) (sorted : IsKeyList keys) (middle : ℕ) (l : low ≤ middle) (h : middle < high) (k : List ℕ) (there : slice_get keys middle ≡ Some k) where
  -- the key is before the one in the middle
  pub to_lower : slice_cmp nat_cmp key k ≡ Less → Between keys key low middle
  to_lower e = record {
    order = l;
    within = let w = b.within in omega arith;
    before = b.before;
    after = λ j x le q. elim (lt_or middle j) [ inl lt ↦ ap is_lt (nat_list_cmp_total.trans key k x e (less _ (sorted_before keys j middle x k sorted.ascending lt there q))) | inr ge ↦ let f : slice_get keys middle ≡ Some x = subst (λ n. slice_get keys n ≡ Some x) (omega arith) q in let g : k ≡ x = cc in ap is_lt (ap (slice_cmp nat_cmp key) (sym g) ∙ e) ];
  }

  -- the key is after the one in the middle
  pub to_upper : slice_cmp nat_cmp key k ≡ Greater → Between keys key (middle + 1) high
  to_upper e = record {
    order = omega arith;
    within = b.within;
    before = λ j x le q. elim (lt_or j middle) [ inl lt ↦ ap is_lt (nat_list_cmp_total.trans x k key (less _ (sorted_before keys middle j k x sorted.ascending lt q there)) turned) | inr ge ↦ let f : slice_get keys middle ≡ Some x = subst (λ n. slice_get keys n ≡ Some x) (omega arith) q in let g : k ≡ x = cc in ap is_lt (ap (λ y. slice_cmp nat_cmp y key) (sym g) ∙ turned) ];
    after = b.after;
  }
    where
      turned : slice_cmp nat_cmp k key ≡ Less
      turned = nat_list_cmp_total.antisymm k key ∙ ap ordering_reverse e

pub at_last : (keys : List (List ℕ)) (key : List ℕ) (low high : ℕ) → Between keys key low high → high ≤ low → IsGap keys key low
at_last keys key low high b l = record {
  within = let w = b.within in let o = b.order in omega arith;
  before = b.before;
  after = λ j k le. b.after j k (omega arith);
}
