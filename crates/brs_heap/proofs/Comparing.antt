-- The comparison of two texts byte by byte.
use Rattle.std.proofs.Common.{◌≡◌, ℕ, zero, suc, ◌+◌, ◌<◌, ◌≤◌, List, [], ◌∷◌, length, map, drop, get_or, refl, sym, ap, ◌∙◌, subst, arith}
use Rattle.std.specs.Ordering.{nat_cmp, ordering_then}
use Rattle.std.specs.declared.cmp.Ordering.{Ordering}
use Rattle.std.specs.declared.cmp.Ordering.TheVariants.{Less, Equal, Greater}
use Rattle.std.specs.Cmp.Lexicographic.{slice_cmp}
use Rattle.std.specs.Char.{to_ascii_lowercase}
use Rattle.std.proofs.lemmas.Grind.{common_steps}
use Rattle.std.proofs.lemmas.Bool.Decides.{nat_tests}
use Rattle.chan_values.specs.Folded.{folded, folded_byte}

abbrev order : List ℕ → List ℕ → Ordering
order = slice_cmp nat_cmp

longer_bare : (xs : List ℕ) (at : ℕ) → at < length xs → order (drop at xs) [] ≡ Greater
longer_bare [] at h = absurd (omega arith)
longer_bare (x ∷ xs) zero h = refl
longer_bare (x ∷ xs) (suc at) h = longer_bare xs at (omega arith)

shorter_bare : (ys : List ℕ) (at : ℕ) → at < length ys → order [] (drop at ys) ≡ Less
shorter_bare [] at h = absurd (omega arith)
shorter_bare (y ∷ ys) zero h = refl
shorter_bare (y ∷ ys) (suc at) h = shorter_bare ys at (omega arith)

same_left : (ys : List ℕ) (at : ℕ) → length ys ≤ at → order [] (drop at ys) ≡ Equal
same_left [] zero l = refl
same_left [] (suc at) l = refl
same_left (y ∷ ys) zero l = absurd (omega arith)
same_left (y ∷ ys) (suc at) l = same_left ys at (omega arith)

same_right : (xs : List ℕ) (at : ℕ) → length xs ≤ at → order (drop at xs) [] ≡ Equal
same_right [] zero l = refl
same_right [] (suc at) l = refl
same_right (x ∷ xs) zero l = absurd (omega arith)
same_right (x ∷ xs) (suc at) l = same_right xs at (omega arith)

pub ends_longer : (xs ys : List ℕ) (at : ℕ) → at < length xs → length ys ≤ at → order (drop at xs) (drop at ys) ≡ Greater
ends_longer [] ys at h l = absurd (omega arith)
ends_longer (x ∷ xs) [] zero h l = refl
ends_longer (x ∷ xs) (y ∷ ys) zero h l = absurd (omega arith)
ends_longer (x ∷ xs) [] (suc at) h l = longer_bare xs at (omega arith)
ends_longer (x ∷ xs) (y ∷ ys) (suc at) h l = ends_longer xs ys at (omega arith) (omega arith)

pub ends_shorter : (xs ys : List ℕ) (at : ℕ) → length xs ≤ at → at < length ys → order (drop at xs) (drop at ys) ≡ Less
ends_shorter xs [] at l h = absurd (omega arith)
ends_shorter [] (y ∷ ys) zero l h = refl
ends_shorter (x ∷ xs) (y ∷ ys) zero l h = absurd (omega arith)
ends_shorter [] (y ∷ ys) (suc at) l h = shorter_bare ys at (omega arith)
ends_shorter (x ∷ xs) (y ∷ ys) (suc at) l h = ends_shorter xs ys at (omega arith) (omega arith)

pub ends_same : (xs ys : List ℕ) (at : ℕ) → length xs ≤ at → length ys ≤ at → order (drop at xs) (drop at ys) ≡ Equal
ends_same [] [] zero l h = refl
ends_same [] [] (suc at) l h = refl
ends_same [] (y ∷ ys) zero l h = absurd (omega arith)
ends_same [] (y ∷ ys) (suc at) l h = same_left ys at (omega arith)
ends_same (x ∷ xs) ys zero l h = absurd (omega arith)
ends_same (x ∷ xs) [] (suc at) l h = same_right xs at (omega arith)
ends_same (x ∷ xs) (y ∷ ys) (suc at) l h = ends_same xs ys at (omega arith) (omega arith)

step_on : (xs ys : List ℕ) (at d e : ℕ) → at < length xs → at < length ys → order (drop at xs) (drop at ys) ≡ ordering_then (nat_cmp (get_or xs at d) (get_or ys at e)) (order (drop (suc at) xs) (drop (suc at) ys))
step_on [] ys at d e h l = absurd (omega arith)
step_on (x ∷ xs) [] at d e h l = absurd (omega arith)
step_on (x ∷ xs) (y ∷ ys) zero d e h l = refl
step_on (x ∷ xs) (y ∷ ys) (suc at) d e h l = step_on xs ys at d e (omega arith) (omega arith)

pub order_step : (xs ys : List ℕ) (at d e : ℕ) → at < length xs → at < length ys → order (drop at xs) (drop at ys) ≡ ordering_then (nat_cmp (get_or xs at d) (get_or ys at e)) (order (drop (at + 1) xs) (drop (at + 1) ys))
order_step xs ys at d e h l = let P : ℕ → Type 0 = λ n. order (drop at xs) (drop at ys) ≡ ordering_then (nat_cmp (get_or xs at d) (get_or ys at e)) (order (drop n xs) (drop n ys)) in let q : suc at ≡ at + 1 = omega arith in subst P q (step_on xs ys at d e h l)

pub folded_length : (name : List ℕ) → length (folded name) ≡ length name
folded_length [] = refl
folded_length (b ∷ name) = ap suc (folded_length name)

pub folded_at : (name : List ℕ) (at d : ℕ) → at < length name → get_or (folded name) at d ≡ folded_byte (get_or name at d)
folded_at [] at d h = absurd (omega arith)
folded_at (b ∷ name) zero d h = refl
folded_at (b ∷ name) (suc at) d h = folded_at name at d (omega arith)

-- two bytes at the same place decide, unless they are the same
pub order_at : (name key : List ℕ) (at x y : ℕ) → at < length name → at < length key → x ≡ folded_byte (get_or name at 0) → y ≡ get_or key at 0
    → order (drop at (folded name)) (drop at key) ≡ ordering_then (nat_cmp x y) (order (drop (at + 1) (folded name)) (drop (at + 1) key))
order_at name key at x y h l e f =
    order_step (folded name) key at 0 0 (let q = folded_length name in omega arith) l
    ∙ ap (λ n. ordering_then (nat_cmp n (get_or key at 0)) (order (drop (at + 1) (folded name)) (drop (at + 1) key))) (folded_at name at 0 h ∙ sym e)
    ∙ ap (λ n. ordering_then (nat_cmp x n) (order (drop (at + 1) (folded name)) (drop (at + 1) key))) (sym f)

lower_is : (b : ℕ) → to_ascii_lowercase b ≡ folded_byte b
lower_is b = grind (arith, common_steps, nat_tests)

module _ (name key : List ℕ) (at : ℕ) (so_far : order (folded name) key ≡ order (drop at (folded name)) (drop at key)) where
  pub longer : at < length name → length key ≤ at → Greater ≡ order (folded name) key
  longer h l = sym (so_far ∙ ends_longer (folded name) key at (let q = folded_length name in omega arith) l)

  pub shorter : length name ≤ at → at < length key → Less ≡ order (folded name) key
  shorter l h = sym (so_far ∙ ends_shorter (folded name) key at (let q = folded_length name in omega arith) h)

  module _ (x : ℕ) (o : Ordering) (h : at < length name) (l : at < length key) (lower : x ≡ to_ascii_lowercase (get_or name at 0)) (compared : o ≡ nat_cmp x (get_or key at 0)) where
    step : order (folded name) key ≡ ordering_then o (order (drop (at + 1) (folded name)) (drop (at + 1) key))
    step = so_far ∙ order_at name key at x (get_or key at 0) h l (lower ∙ lower_is (get_or name at 0)) refl ∙ ap (λ p. ordering_then p (order (drop (at + 1) (folded name)) (drop (at + 1) key))) (sym compared)

    pub is_less : Less ≡ o → Less ≡ order (folded name) key
    is_less e = sym (step ∙ ap (λ p. ordering_then p (order (drop (at + 1) (folded name)) (drop (at + 1) key))) (sym e))

    pub is_greater : Greater ≡ o → Greater ≡ order (folded name) key
    is_greater e = sym (step ∙ ap (λ p. ordering_then p (order (drop (at + 1) (folded name)) (drop (at + 1) key))) (sym e))

    pub goes_on : Equal ≡ o → order (folded name) key ≡ order (drop (at + 1) (folded name)) (drop (at + 1) key)
    goes_on e = step ∙ ap (λ p. ordering_then p (order (drop (at + 1) (folded name)) (drop (at + 1) key))) (sym e)
