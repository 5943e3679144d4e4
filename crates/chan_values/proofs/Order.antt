-- One key more behind folded, ascending keys.
use Rattle.std.proofs.Common.{◌≡◌, ◌+◌, ◌-◌, ◌<◌, ℕ, List, [], ◌∷◌, ◌++◌, length, get_or, map, sym, ap, ◌∙◌, arith}
use Rattle.std.specs.Prelude.{◌↔◌}
use Rattle.std.specs.List.{AllByRecursion}
use Rattle.std.specs.List.Sorted.{IsStrictlySortedBy}
use Rattle.std.specs.Ordering.{nat_cmp}
use Rattle.std.specs.Cmp.Lexicographic.{slice_cmp, nat_list_cmp_total}
use Rattle.std.specs.declared.cmp.Ordering.TheVariants.{Less}
use Rattle.std.proofs.lemmas.Map.Keys.{Less-from_sorted, sorted_from_all_adjacent}
use Rattle.std.proofs.lemmas.Grind.{common_steps}
use Rattle.std.proofs.lemmas.List.{length-append, length-map}
use Rattle.chan_values.specs.Folded.{folded}
use Rattle.chan_values.specs.declared.portable.Pair.{Pair}
use Rattle.chan_values.specs.Tree.{TreePair, keys_of, pairs_of}
use Rattle.chan_values.specs.View.{tree_pair_of}
use Rattle.chan_values.specs.Portable.{IsKeyList, IsPortable}

-- the last key, if there is one, is below this one
abbrev pub IsAboveLast : List (List ℕ) → List ℕ → Type 0
IsAboveLast ks k = 0 < length ks → slice_cmp nat_cmp (get_or ks (length ks - 1) []) k ≡ Less

adjacent : (ks : List (List ℕ)) (k : List ℕ) (i : ℕ) → IsStrictlySortedBy (slice_cmp nat_cmp) ks → IsAboveLast ks k → i + 1 < length (ks ++ k ∷ [])
    → slice_cmp nat_cmp (get_or (ks ++ k ∷ []) i []) (get_or (ks ++ k ∷ []) (i + 1) []) ≡ Less
adjacent ks k i up last h =
    let within = λ (l : i + 1 < length ks). Less-from_sorted (slice_cmp nat_cmp) ks i (i + 1) [] up (omega arith) l in
    grind (arith, common_steps, within, last)

all_more : (P : List ℕ → Type 0) (ks : List (List ℕ)) (k : List ℕ) → AllByRecursion P ks → P k → AllByRecursion P (ks ++ k ∷ [])
all_more P [] k h p = (p, tt)
all_more P (l ∷ ks) k h p = (h.0, all_more P ks k h.1 p)

all_last : (P : List ℕ → Type 0) (ks : List (List ℕ)) (k : List ℕ) → AllByRecursion P (ks ++ k ∷ []) → P k
all_last P [] k h = h.0
all_last P (l ∷ ks) k h = all_last P ks k h.1

pub one_more : (ks : List (List ℕ)) (k : List ℕ) → IsKeyList ks → folded k ≡ k → IsAboveLast ks k → IsKeyList (ks ++ k ∷ [])
one_more ks k h f l = record {
  folded = all_more (λ k. folded k ≡ k) ks k h.folded f;
  ascending = sorted_from_all_adjacent nat_list_cmp_total (ks ++ k ∷ []) [] (λ i h'. adjacent ks k i h.ascending l h');
}

above_last : (ks : List (List ℕ)) (k : List ℕ) → IsStrictlySortedBy (slice_cmp nat_cmp) (ks ++ k ∷ []) → IsAboveLast ks k
above_last ks k up h =
    let within = Less-from_sorted (slice_cmp nat_cmp) (ks ++ k ∷ []) (length ks - 1) (length ks) [] up (omega arith) (omega (arith, length-append ks (k ∷ []))) in
    grind (arith, common_steps, within)

pub last_key : (ks : List (List ℕ)) (k : List ℕ) → IsKeyList (ks ++ k ∷ []) → (folded k ≡ k) × IsAboveLast ks k
last_key ks k h = (all_last (λ k. folded k ≡ k) ks k h.folded, above_last ks k h.ascending)

-- whether a key may follow, from what two tests have told
pub key_may_follow : (xs : List Pair) (ps : List TreePair) (k : List ℕ) (P : Type 0) → map tree_pair_of xs ≡ ps → IsPortable (pairs_of ps) → folded k ≡ k
    → P ↔ (0 < length xs → slice_cmp nat_cmp (get_or (keys_of (map tree_pair_of xs)) (length xs - 1) []) k ≡ Less)
    → P ↔ IsKeyList (keys_of ps ++ k ∷ [])
key_may_follow xs ps k P m h f t =
    let n : length xs ≡ length (keys_of ps) = sym (length-map xs tree_pair_of) ∙ ap length m ∙ sym (length-map ps (λ p. p.key)) in (
      λ p. one_more (keys_of ps) k h.keys.0.0 f (λ l. ap (λ n. slice_cmp nat_cmp (get_or (keys_of ps) (n - 1) []) k) (sym n) ∙ ap (λ qs. slice_cmp nat_cmp (get_or (keys_of qs) (length xs - 1) []) k) (sym m) ∙ t.0 p (omega arith)),
      λ l. t.1 (λ i. ap (λ qs. slice_cmp nat_cmp (get_or (keys_of qs) (length xs - 1) []) k) m ∙ ap (λ n. slice_cmp nat_cmp (get_or (keys_of ps) (n - 1) []) k) n ∙ (last_key (keys_of ps) k l).1 (omega arith)),
    )
