-- Which piece is the longest.
use Rattle.std.proofs.Common.{◌≡◌, ℕ, zero, suc, ◌+◌, ◌<◌, ◌≤◌, ◌⊎◌, inl, inr, Bool, true, false, cond, List, [], ◌∷◌, length, take, Some, None, nat_eq, refl, ap, ◌∙◌, subst, arith}
use Rattle.std.proofs.lemmas.Bool.Decides.{nat_tests}
use Rattle.std.specs.List.{prefix_len, list_all}
use Rattle.brs_tokens.specs.Pieces.{where_, piece_kind, is_empty, is_digits}
use Rattle.brs_tokens.specs.Lengths.{digits_len}
use Rattle.brs_tokens.specs.Spelling.{longest_within, longest_piece}
use Rattle.brs_tokens.specs.declared.piece.PieceKind.{PieceKind}

-- Of the fronts of these bytes the one of length n is the longest that passes.
pub record IsLongest (test : List ℕ → Bool) (bytes : List ℕ) (n : ℕ) : Type 0 where
  pub within : n ≤ length bytes
  pub passes : test (take n bytes) ≡ true
  pub longest : (m : ℕ) → n < m → m ≤ length bytes → test (take m bytes) ≡ false

-- No front of these bytes passes.
abbrev pub NonePasses : (List ℕ → Bool) → List ℕ → Type 0
NonePasses test bytes = (m : ℕ) → m ≤ length bytes → test (take m bytes) ≡ false

-- what is found, counting down from a length below which nothing longer stands
pub longest_within-some : (bytes : List ℕ) (kind : PieceKind) (n k : ℕ) → piece_kind (take (suc n) bytes) ≡ Some kind → suc n ≤ k
    → ((m : ℕ) → suc n < m → m ≤ k → piece_kind (take m bytes) ≡ None) → longest_within k bytes ≡ Some (record { kind = kind; len = suc n })
unfolding longest_within
longest_within-some bytes kind n zero found within none = absurd (omega arith)
longest_within-some bytes kind n (suc k) found within none =
    let cases : (suc n ≡ suc k) ⊎ (suc n ≤ k) = grind arith in
    elim cases [
      | inl same ↦ let found' : piece_kind (take (suc k) bytes) ≡ Some kind = subst (λ m. piece_kind (take m bytes) ≡ Some kind) same found in rw (found', longest_within, same) refl
      | inr more ↦ rw (none (suc k) (omega arith) (omega arith), longest_within) (longest_within-some bytes kind n k found more (λ m l u. none m l (omega arith)))
    ]

pub longest_within-none : (bytes : List ℕ) (k : ℕ) → ((m : ℕ) → 0 < m → m ≤ k → piece_kind (take m bytes) ≡ None) → longest_within k bytes ≡ None
unfolding longest_within
longest_within-none bytes zero none = refl
longest_within-none bytes (suc k) none =
    rw (none (suc k) (omega arith) (omega arith), longest_within) (longest_within-none bytes k (λ m l u. none m l (omega arith)))

-- bytes of which the first decides the kind
pub longest-some : (b : ℕ) (bs : List ℕ) (test : List ℕ → Bool) (kind : PieceKind) (n : ℕ)
    → ((cs : List ℕ) → piece_kind (b ∷ cs) ≡ where_ (test cs) kind) → IsLongest test bs n → longest_piece (b ∷ bs) ≡ Some (record { kind = kind; len = suc n })
longest-some b bs test kind n spells is =
    longest_within-some (b ∷ bs) kind n (length (b ∷ bs)) (spells (take n bs) ∙ ap (λ t. where_ t kind) is.passes) (omega (arith, is.within)) none
  where
    none : (m : ℕ) → suc n < m → m ≤ length (b ∷ bs) → piece_kind (take m (b ∷ bs)) ≡ None
    none zero l u = absurd (omega arith)
    none (suc m) l u = spells (take m bs) ∙ ap (λ t. where_ t kind) (is.longest m (omega arith) (omega arith))

pub longest-none : (b : ℕ) (bs : List ℕ) (test : List ℕ → Bool) (kind : PieceKind)
    → ((cs : List ℕ) → piece_kind (b ∷ cs) ≡ where_ (test cs) kind) → NonePasses test bs → longest_piece (b ∷ bs) ≡ None
longest-none b bs test kind spells never = longest_within-none (b ∷ bs) (length (b ∷ bs)) none
  where
    none : (m : ℕ) → 0 < m → m ≤ length (b ∷ bs) → piece_kind (take m (b ∷ bs)) ≡ None
    none zero l u = absurd (omega arith)
    none (suc m) l u = spells (take m bs) ∙ ap (λ t. where_ t kind) (never m (omega arith))

-- one byte alone
pub alone : (bs : List ℕ) → IsLongest is_empty bs 0
alone bs = record { within = omega arith; passes = refl; longest = longer bs }
  where
    longer : (bs : List ℕ) (m : ℕ) → 0 < m → m ≤ length bs → is_empty (take m bs) ≡ false
    longer bs zero l u = absurd (omega arith)
    longer [] (suc m) l u = absurd (omega arith)
    longer (b ∷ bs) (suc m) l u = refl

-- a run of a class
pub run-within : (p : ℕ → Bool) (bs : List ℕ) → prefix_len p bs ≤ length bs
run-within p [] = omega arith
run-within p (b ∷ bs) =
    elim (p b) as (λ t. cond t (1 + prefix_len p bs) 0 ≤ suc (length bs)) [ true ↦ omega (arith, run-within p bs) | false ↦ omega arith ]

pub run-passes : (p : ℕ → Bool) (bs : List ℕ) → list_all p (take (prefix_len p bs) bs) ≡ true
run-passes p [] = refl
run-passes p (b ∷ bs) =
    elim (p b) as (λ t. (p b ≡ t) → list_all p (take (cond t (1 + prefix_len p bs) 0) (b ∷ bs)) ≡ true) [
      | true ↦ λ h. rw (one_more (prefix_len p bs), h) (run-passes p bs)
      | false ↦ λ h. refl
    ] refl
  where
    one_more : (n : ℕ) → 1 + n ≡ suc n
    one_more n = omega arith

pub run-longest : (p : ℕ → Bool) (bs : List ℕ) (m : ℕ) → prefix_len p bs < m → m ≤ length bs → list_all p (take m bs) ≡ false
run-longest p bs zero l u = absurd (omega arith)
run-longest p [] (suc m) l u = absurd (omega arith)
run-longest p (b ∷ bs) (suc m) l u =
    elim (p b) as (λ t. (p b ≡ t) → list_all p (take (suc m) (b ∷ bs)) ≡ false) [
      | true ↦ λ h. let l' = rw h at l in rw h (run-longest p bs m (omega arith) (omega arith))
      | false ↦ λ h. rw h refl
    ] refl

pub run : (p : ℕ → Bool) (bs : List ℕ) → IsLongest (list_all p) bs (prefix_len p bs)
run p bs = record { within = run-within p bs; passes = run-passes p bs; longest = run-longest p bs }

-- digits and at most one `&`
pub digits : (p : ℕ → Bool) (bs : List ℕ) → IsLongest (is_digits p) bs (digits_len p bs)
digits p bs = record { within = digits-within bs; passes = digits-passes bs; longest = digits-longest bs }
  where
    one_more : (n : ℕ) → 1 + n ≡ suc n
    one_more n = omega arith

    digits-within : (bs : List ℕ) → digits_len p bs ≤ length bs
    digits-within [] = omega arith
    digits-within (b ∷ bs) =
        elim (p b) as (λ t. cond t (1 + digits_len p bs) (cond (nat_eq b 38) 1 0) ≤ suc (length bs)) [
          | true ↦ omega (arith, digits-within bs)
          | false ↦ grind (arith, nat_tests)
        ]

    digits-passes : (bs : List ℕ) → is_digits p (take (digits_len p bs) bs) ≡ true
    digits-passes [] = refl
    digits-passes (b ∷ bs) =
        elim (p b) as (λ t. (p b ≡ t) → is_digits p (take (cond t (1 + digits_len p bs) (cond (nat_eq b 38) 1 0)) (b ∷ bs)) ≡ true) [
          | true ↦ λ h. rw (one_more (digits_len p bs), h) (digits-passes bs)
          | false ↦ λ h.
              elim (nat_eq b 38) as (λ t. (nat_eq b 38 ≡ t) → is_digits p (take (cond t 1 0) (b ∷ bs)) ≡ true) [
                | true ↦ λ e. rw (h, e) refl
                | false ↦ λ e. refl
              ] refl
        ] refl

    digits-longest : (bs : List ℕ) (m : ℕ) → digits_len p bs < m → m ≤ length bs → is_digits p (take m bs) ≡ false
    digits-longest bs zero l u = absurd (omega arith)
    digits-longest [] (suc m) l u = absurd (omega arith)
    digits-longest (b ∷ bs) (suc m) l u =
        elim (p b) as (λ t. (p b ≡ t) → is_digits p (take (suc m) (b ∷ bs)) ≡ false) [
          | true ↦ λ h. let l' = rw h at l in rw h (digits-longest bs m (omega arith) (omega arith))
          | false ↦ λ h.
              let l' = rw h at l in
              elim (nat_eq b 38) as (λ t. (nat_eq b 38 ≡ t) → is_digits p (take (suc m) (b ∷ bs)) ≡ false) [
                | true ↦ λ e. let l'' = rw e at l' in rw (h, e) ((alone bs).longest m (omega arith) (omega arith))
                | false ↦ λ e. rw (h, e) refl
              ] refl
        ] refl
