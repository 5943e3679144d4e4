-- How the lengths of pieces go on byte by byte.
use Rattle.std.proofs.Common.{◌≡◌, ◌≢◌, ℕ, ◌+◌, ◌<◌, ◌≤◌, Bool, true, false, List, [], ◌∷◌, length, get_or, drop, add-one, drop-cons, refl, ap, ◌∙◌, arith}
use Rattle.std.proofs.lemmas.Grind.{common_steps}
use Rattle.std.proofs.lemmas.Bool.Decides.{nat_tests}
use Rattle.std.proofs.lemmas.List.{drop_all}
use Rattle.std.specs.List.{prefix_len}
use Rattle.brs_tokens.specs.Lengths.{digits_len, longer_by, text_len}

-- digits and an `&`
pub digits_len-long : (p : ℕ → Bool) (bs : List ℕ) → prefix_len p bs < length bs → get_or bs (prefix_len p bs) 0 ≡ 38 → digits_len p bs ≡ prefix_len p bs + 1
digits_len-long p [] within here = absurd (omega arith)
digits_len-long p (b ∷ bs) within here =
    elim (p b) as (λ t. (p b ≡ t) → digits_len p (b ∷ bs) ≡ prefix_len p (b ∷ bs) + 1) [
      | true ↦ λ h.
          let within' = rw h at within in
          let here' = rw h at here in
          rw (h) (let more = digits_len-long p bs (omega arith) (grind (arith, common_steps)) in omega arith)
      | false ↦ λ h. let here' : b ≡ 38 = rw h at here in rw (h, here') refl
    ] refl

-- digits without one
pub digits_len-plain : (p : ℕ → Bool) (bs : List ℕ) → (prefix_len p bs < length bs → get_or bs (prefix_len p bs) 0 ≢ 38) → digits_len p bs ≡ prefix_len p bs
digits_len-plain p [] none = refl
digits_len-plain p (b ∷ bs) none =
    elim (p b) as (λ t. (p b ≡ t) → digits_len p (b ∷ bs) ≡ prefix_len p (b ∷ bs)) [
      | true ↦ λ h.
          let none' = rw h at none in
          rw h (ap (λ n. 1 + n) (digits_len-plain p bs (λ l e. none' (omega arith) (grind (arith, common_steps)))))
      | false ↦ λ h. let none' = rw h at none in let other : b ≢ 38 = none' (omega arith) in rw h (grind (arith, nat_tests))
    ] refl

pub longer_by-zero : (n : ℕ) → longer_by 0 0 n ≡ n
longer_by-zero n = grind (arith, nat_tests)

pub longer_by-plain : (at none n : ℕ) → longer_by at none (longer_by 1 0 n) ≡ longer_by (at + 1) none n
longer_by-plain at none n = grind (arith, nat_tests)

pub longer_by-pair : (at none n : ℕ) → longer_by at none (longer_by 2 1 n) ≡ longer_by (at + 2) (at + 1) n
longer_by-pair at none n = grind (arith, nat_tests)

pub text_len-nil : text_len [] ≡ 0
unfolding text_len
text_len-nil = refl

pub text_len-plain : (b : ℕ) (bs : List ℕ) → b ≢ 34 → b ≢ 10 → text_len (b ∷ bs) ≡ longer_by 1 0 (text_len bs)
unfolding text_len
text_len-plain b [] q l = grind (arith, nat_tests)
text_len-plain b (c ∷ bs) q l = grind (arith, nat_tests)

pub text_len-line : (bs : List ℕ) → text_len (10 ∷ bs) ≡ 0
unfolding text_len
text_len-line [] = refl
text_len-line (c ∷ bs) = refl

pub text_len-pair : (bs : List ℕ) → text_len (34 ∷ 34 ∷ bs) ≡ longer_by 2 1 (text_len bs)
unfolding text_len
text_len-pair bs = refl

pub text_len-last : text_len (34 ∷ []) ≡ 1
unfolding text_len
text_len-last = refl

pub text_len-close : (c : ℕ) (bs : List ℕ) → c ≢ 34 → text_len (34 ∷ c ∷ bs) ≡ 1
unfolding text_len
text_len-close c bs q = grind (arith, nat_tests)

-- the same at a place of a list

first_at : (bs : List ℕ) (at : ℕ) → at < length bs → drop at bs ≡ get_or bs at 0 ∷ drop (at + 1) bs
first_at bs at within = rw (add-one) (drop-cons bs at 0 within)

pub text_at-plain : (bs : List ℕ) (at none : ℕ) → at < length bs → get_or bs at 0 ≢ 34 → get_or bs at 0 ≢ 10
    → longer_by at none (text_len (drop at bs)) ≡ longer_by (at + 1) none (text_len (drop (at + 1) bs))
text_at-plain bs at none within q l =
    ap (λ t. longer_by at none (text_len t)) (first_at bs at within)
    ∙ ap (λ n. longer_by at none n) (text_len-plain (get_or bs at 0) (drop (at + 1) bs) q l)
    ∙ longer_by-plain at none (text_len (drop (at + 1) bs))

pub text_at-line : (bs : List ℕ) (at : ℕ) → at < length bs → get_or bs at 0 ≡ 10 → text_len (drop at bs) ≡ 0
text_at-line bs at within l = rw (first_at bs at within, l) (text_len-line (drop (at + 1) bs))

pub text_at-pair : (bs : List ℕ) (at none : ℕ) → at + 1 < length bs → get_or bs at 0 ≡ 34 → get_or bs (at + 1) 0 ≡ 34
    → longer_by at none (text_len (drop at bs)) ≡ longer_by (at + 2) (at + 1) (text_len (drop (at + 2) bs))
text_at-pair bs at none within q r =
    let two : (at + 1) + 1 ≡ at + 2 = omega arith in
    let front : drop at bs ≡ 34 ∷ 34 ∷ drop (at + 2) bs = rw (first_at bs at (omega arith), q, first_at bs (at + 1) within, r, two) refl in
    ap (λ t. longer_by at none (text_len t)) front
    ∙ ap (λ n. longer_by at none n) (text_len-pair (drop (at + 2) bs))
    ∙ longer_by-pair at none (text_len (drop (at + 2) bs))

pub text_at-close : (bs : List ℕ) (at : ℕ) → at + 1 < length bs → get_or bs at 0 ≡ 34 → get_or bs (at + 1) 0 ≢ 34 → text_len (drop at bs) ≡ 1
text_at-close bs at within q r =
    rw (first_at bs at (omega arith), q, first_at bs (at + 1) within) (text_len-close (get_or bs (at + 1) 0) (drop ((at + 1) + 1) bs) r)

pub text_at-last : (bs : List ℕ) (at : ℕ) → at < length bs → length bs ≤ at + 1 → get_or bs at 0 ≡ 34 → text_len (drop at bs) ≡ 1
text_at-last bs at within last q =
    let none : drop (at + 1) bs ≡ [] = drop_all (at + 1) bs last in
    rw (first_at bs at within, q, none) text_len-last

pub text_at-end : (bs : List ℕ) (at : ℕ) → length bs ≤ at → text_len (drop at bs) ≡ 0
unfolding text_len
text_at-end bs at past = let none : drop at bs ≡ [] = drop_all at bs past in rw none refl
