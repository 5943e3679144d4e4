-- Blanks at the ends of texts.
use Rattle.std.proofs.Common.{◌≡◌, ◌≢◌, ℕ, suc, ◌+◌, ◌-◌, ◌<◌, Bool, true, false, List, [], ◌∷◌, ◌++◌, length, take, drop, reverse, get_or, Option, Some, None, Bor, refl, sym, ap, ◌∙◌, arith}
use Rattle.std.proofs.lemmas.List.{reverse-append, take-append-le, take_all, take_more, length_push}
use Rattle.std.specs.List.{prefix_len, suffix_len}
use Rattle.std.specs.Option.{MatchOption}
use Rattle.plain_operations.specs.Texts.{is_blank, without_first_blanks, without_end_blanks}

one_more : (p : ℕ → Bool) (c : ℕ) (s : List ℕ) → p c ≡ true → prefix_len p (c ∷ s) ≡ suc (prefix_len p s)
one_more p c s e = grind (arith, e)

none_more : (p : ℕ → Bool) (c : ℕ) (s : List ℕ) → p c ≡ false → prefix_len p (c ∷ s) ≡ 0
none_more p c s e = grind (arith, e)

-- a byte that passes goes with those behind it
pub first_passes : (p : ℕ → Bool) (c : ℕ) (s : List ℕ) → p c ≡ true → drop (prefix_len p (c ∷ s)) (c ∷ s) ≡ drop (prefix_len p s) s
first_passes p c s e = ap (λ k. drop k (c ∷ s)) (one_more p c s e)

pub first_fails : (p : ℕ → Bool) (c : ℕ) (s : List ℕ) → p c ≡ false → drop (prefix_len p (c ∷ s)) (c ∷ s) ≡ c ∷ s
first_fails p c s e = ap (λ k. drop k (c ∷ s)) (none_more p c s e)

reverse_push : (s : List ℕ) (c : ℕ) → reverse (s ++ c ∷ []) ≡ c ∷ reverse s
reverse_push s c = reverse-append s (c ∷ [])

not_blank : (c : ℕ) → c ≢ 32 → c ≢ 9 → is_blank c ≡ false
not_blank c a b = grind arith

-- no blank at the start
pub no_first : (s : List ℕ) → ((rest : List ℕ) → s ≢ 32 ∷ rest) → ((rest : List ℕ) → s ≢ 9 ∷ rest) → without_first_blanks s ≡ s
no_first [] a b = refl
no_first (c ∷ s) a b = first_fails is_blank c s (not_blank c (λ e. a s (ap (λ x. x ∷ s) e)) (λ e. b s (ap (λ x. x ∷ s) e)))

-- one at the end
pub one_end : (s t : List ℕ) (c : ℕ) → is_blank c ≡ true → t ≡ s ++ c ∷ [] → without_end_blanks t ≡ without_end_blanks s
one_end s t c b e =
    let n : suffix_len is_blank (s ++ c ∷ []) ≡ suc (suffix_len is_blank s) = ap (prefix_len is_blank) (reverse_push s c) ∙ one_more is_blank c (reverse s) b in
    let l = length_push s c in
    let k : length (s ++ c ∷ []) - suffix_len is_blank (s ++ c ∷ []) ≡ length s - suffix_len is_blank s = omega (arith, n, l) in
    ap without_end_blanks e ∙ ap (λ x. take x (s ++ c ∷ [])) k ∙ take-append-le (length s - suffix_len is_blank s) s (c ∷ []) (omega arith)

-- none at the end, by the last byte
pub end_fails : (s : List ℕ) (c : ℕ) → is_blank c ≡ false → without_end_blanks (s ++ c ∷ []) ≡ s ++ c ∷ []
end_fails s c b =
    let n : suffix_len is_blank (s ++ c ∷ []) ≡ 0 = ap (prefix_len is_blank) (reverse_push s c) ∙ none_more is_blank c (reverse s) b in
    take_all (length (s ++ c ∷ []) - suffix_len is_blank (s ++ c ∷ [])) (s ++ c ∷ []) (omega (arith, n))

last_of : (c : ℕ) (t : List ℕ) → c ∷ t ≡ take (length t) (c ∷ t) ++ get_or (c ∷ t) (length t) 0 ∷ []
last_of c t = sym (take_all (length t + 1) (c ∷ t) (omega arith)) ∙ take_more (c ∷ t) (length t) 0 (omega arith)

-- no blank at the end
pub no_end : (s : List ℕ) → ((front : List ℕ) → s ≢ front ++ 32 ∷ []) → ((front : List ℕ) → s ≢ front ++ 9 ∷ []) → without_end_blanks s ≡ s
no_end [] a b = refl
no_end (c ∷ t) a b =
    let e = last_of c t in
    let f = take (length t) (c ∷ t) in
    let n = not_blank (get_or (c ∷ t) (length t) 0) (λ x. a f (e ∙ ap (λ y. f ++ y ∷ []) x)) (λ x. b f (e ∙ ap (λ y. f ++ y ∷ []) x)) in
    ap without_end_blanks e ∙ end_fails f (get_or (c ∷ t) (length t) 0) n ∙ sym e

-- what a look for a tab says, where there is no space
pub tab_first : (s : List ℕ) (r : Option (Bor (List ℕ))) → ((rest : List ℕ) → s ≢ 32 ∷ rest) → MatchOption r ((rest : List ℕ) → s ≢ 9 ∷ rest) (λ x. s ≡ 9 ∷ x.now)
    → MatchOption r (without_first_blanks s ≡ s) (λ x. (length x.now < length s) × (without_first_blanks x.now ≡ without_first_blanks s))
tab_first s None a b = no_first s a b
tab_first s (Some x) a e = (omega (arith, ap length e), sym (ap without_first_blanks e ∙ first_passes is_blank 9 x.now refl))

pub tab_end : (s : List ℕ) (r : Option (Bor (List ℕ))) → ((front : List ℕ) → s ≢ front ++ 32 ∷ []) → MatchOption r ((front : List ℕ) → s ≢ front ++ 9 ∷ []) (λ x. s ≡ x.now ++ 9 ∷ [])
    → MatchOption r (without_end_blanks s ≡ s) (λ x. (length x.now < length s) × (without_end_blanks x.now ≡ without_end_blanks s))
tab_end s None a b = no_end s a b
tab_end s (Some x) a e = (omega (arith, ap length e, length_push x.now 9), sym (one_end x.now s 9 refl e))

pub space_first : (s rest : List ℕ) → s ≡ 32 ∷ rest → (length rest < length s) × (without_first_blanks rest ≡ without_first_blanks s)
space_first s rest e = (omega (arith, ap length e), sym (ap without_first_blanks e ∙ first_passes is_blank 32 rest refl))

pub space_end : (s front : List ℕ) → s ≡ front ++ 32 ∷ [] → (length front < length s) × (without_end_blanks front ≡ without_end_blanks s)
space_end s front e = (omega (arith, ap length e, length_push front 32), sym (one_end front s 32 refl e))
