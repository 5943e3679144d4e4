-- The place behind some bytes, as it is counted byte by byte.
use Rattle.std.proofs.Common.{◌≡◌, ℕ, ◌+◌, inl, inr, List, [], ◌∷◌, ◌++◌, reverse, append_assoc, append-nil, refl, sym, ap, ◌∙◌, arith}
use Rattle.std.specs.Prelude.{◌==◌, cond}
use Rattle.std.specs.List.{count_by, prefix_len}
use Rattle.std.proofs.lemmas.Bool.Decides.{eqb_tells}
use Rattle.std.proofs.lemmas.List.{reverse-append}
use Rattle.std.proofs.lemmas.List.Sums.{sum_by-append}
use Rattle.brs_tokens.specs.Classes.{stays_in_line}
use Rattle.brs_tokens.specs.Cuts.{place_behind}
use Rattle.brs_tokens.specs.Spelling.{after_byte, place_after}
use Rattle.brs_tokens.specs.declared.place.Place.{Place}

place-same : (a b c d : ℕ) → a ≡ c → b ≡ d → ◌≡◌ {A = Place} (record { line = a; column = b }) (record { line = c; column = d })
place-same a b c d lines columns = rw (lines, columns) refl

place-byte : (first_line : ℕ) (before : List ℕ) (b : ℕ) → place_behind first_line (before ++ b ∷ []) ≡ after_byte (place_behind first_line before) b
place-byte first_line before b =
    let lines : count_by (λ x. x == 10) (before ++ b ∷ []) ≡ count_by (λ x. x == 10) before + count_by (λ x. x == 10) (b ∷ []) =
    sum_by-append (λ x. cond (x == 10) 1 0) before (b ∷ []) in
    let back : reverse (before ++ b ∷ []) ≡ b ∷ reverse before = reverse-append before (b ∷ []) in
    let whole : place_behind first_line (before ++ b ∷ [])
    ≡ record { line = first_line + (count_by (λ x. x == 10) before + count_by (λ x. x == 10) (b ∷ [])); column = 1 + prefix_len stays_in_line (b ∷ reverse before) } =
    place-same _ _ _ _ (ap (λ n. first_line + n) lines) (ap (λ t. 1 + prefix_len stays_in_line t) back) in
    elim (eqb_tells b 10) [
      | inl is ↦ whole ∙ rw is.0 (place-same _ _ _ _ (omega arith) (omega arith))
      | inr other ↦ whole ∙ rw other.0 (place-same _ _ _ _ (omega arith) (omega arith))
    ]

pub place-more : (first_line : ℕ) (before bs : List ℕ) → place_after (place_behind first_line before) bs ≡ place_behind first_line (before ++ bs)
place-more first_line before [] = ap (place_behind first_line) (sym (append-nil before))
place-more first_line before (b ∷ bs) =
    ap (λ p. place_after p bs) (sym (place-byte first_line before b)) ∙ place-more first_line (before ++ b ∷ []) bs
    ∙ ap (place_behind first_line) (append_assoc before (b ∷ []) bs)

pub place-start : (first_line : ℕ) → ◌≡◌ {A = Place} (record { line = first_line; column = 1 }) (place_behind first_line [])
place-start first_line = place-same _ _ _ _ (omega arith) (omega arith)
