-- The longest front of a source that is text, and the byte that begins no character.
use Rattle.std.proofs.Common.{◌≡◌, ◌≢◌, ℕ, zero, suc, ◌+◌, ◌-◌, ◌<◌, ◌≤◌, ◌⊎◌, inl, inr, true, false, List, [], ◌∷◌, ◌++◌, length, take, drop, refl, sym, ap, ◌∙◌, subst, append_assoc, append-nil, length-append, arith}
use Rattle.std.specs.Prelude.{IsUtf8}
use Rattle.std.specs.Char.{encode_utf8}
use Rattle.std.specs.Str.{is_utf8}
use Rattle.std.specs.Str.Lossy.{utf8_valid_len, valid_len_up_to}
use Rattle.std.proofs.Math.Seq.{take-append_seam, drop-append_seam, take-append-add}
use Rattle.std.proofs.lemmas.Bool.{false≢true}
use Rattle.std.proofs.lemmas.List.{take-append-drop, length-take-le}
use Rattle.std.proofs.lemmas.Str.{IsUtf8-nil, IsUtf8-append, IsUtf8-encode, length-le-encodes, IsUtf8-drop, IsUtf8-from_is_utf8, is_utf8-from_IsUtf8, IsCharBoundary-from_take}
use Rattle.brs_tokens.specs.Kinds.{Begins}
use Rattle.brs_tokens.specs.FaultTable.{IsCharacter}
use Rattle.brs_tokens.proofs.Rows.{utf8-begins}

-- the longest front that is text

pub record IsTextFront (bs : List ℕ) (n : ℕ) : Type 0 where
  pub within : n ≤ length bs
  pub text : IsUtf8 (take n bs)
  pub longest : (m : ℕ) → n < m → m ≤ length bs → IsUtf8 (take m bs) → ⊥

front-up_to : (bs : List ℕ) (k : ℕ) → (valid_len_up_to bs k ≤ k) × IsUtf8 (take (valid_len_up_to bs k) bs)
    × ((m : ℕ) → valid_len_up_to bs k < m → m ≤ k → IsUtf8 (take m bs) → ⊥)
front-up_to bs zero = (omega arith, IsUtf8-nil, λ m l u utf8. absurd (omega arith))
front-up_to bs (suc k) =
    elim (is_utf8 (take (suc k) bs)) as (λ t. (is_utf8 (take (suc k) bs) ≡ t) → (valid_len_up_to bs (suc k) ≤ suc k) × IsUtf8 (take (valid_len_up_to bs (suc k)) bs)
    × ((m : ℕ) → valid_len_up_to bs (suc k) < m → m ≤ suc k → IsUtf8 (take m bs) → ⊥)) [
      | true ↦ λ h. rw h (omega arith, IsUtf8-from_is_utf8 (take (suc k) bs) h, λ m l u utf8. absurd (omega arith))
      | false ↦ λ h.
          let less = front-up_to bs k in
          rw h (omega (arith, less.0), less.1, λ m l u utf8. further h (grind arith) utf8 (λ within. less.2 m l within utf8))
    ] refl
  where
    further : {m : ℕ} → is_utf8 (take (suc k) bs) ≡ false → (m ≡ suc k) ⊎ (m ≤ k) → IsUtf8 (take m bs) → (m ≤ k → ⊥) → ⊥
    further h (inl same) utf8 less = false≢true (sym h ∙ is_utf8-from_IsUtf8 (take (suc k) bs) (subst (λ n. IsUtf8 (take n bs)) same utf8))
    further h (inr within) utf8 less = less within

pub text-front : (bs : List ℕ) → IsTextFront bs (utf8_valid_len bs)
unfolding utf8_valid_len
text-front bs = let all = front-up_to bs (length bs) in record { within = all.0; text = all.1; longest = all.2 }

-- where it ends

-- what is behind a text in a longer text is text
pub text-rest : (before more : List ℕ) → IsUtf8 before → IsUtf8 (before ++ more) → IsUtf8 more
text-rest before more first both =
    let front : IsUtf8 (take (length before) (before ++ more)) = subst IsUtf8 (sym (take-append_seam before more)) first in
    let bound = IsCharBoundary-from_take (before ++ more) (length before) both (omega (arith, length-append before more)) front in
    subst IsUtf8 (drop-append_seam before more) (IsUtf8-drop (before ++ more) (length before) both bound)

pub front-split : (before rest : List ℕ) (n : ℕ) → length before ≤ n → take n (before ++ rest) ≡ before ++ take (n - length before) rest
front-split before rest n fits =
    let sum : n ≡ length before + (n - length before) = omega arith in
    ap (λ m. take m (before ++ rest)) sum ∙ take-append-add before rest (n - length before)

some-bytes : (c : ℕ) → 0 < length (encode_utf8 c)
some-bytes c = omega (arith, length-le-encodes (c ∷ []), ap length (append-nil (encode_utf8 c)))

pub nothing-begins : Begins IsCharacter [] → ⊥
nothing-begins b = omega (arith, ap length b.bytes_are, ap length b.is.2, length-append b.front b.behind, some-bytes b.is.0)

-- a text that a character follows isn't the longest
pub text-further : (before rest : List ℕ) (n : ℕ) → IsTextFront (before ++ rest) n → IsUtf8 before → Begins IsCharacter rest → length before ≢ n
text-further before rest n is utf8 b same =
    let c = b.is.0 in
    let split : before ++ rest ≡ (before ++ encode_utf8 c) ++ b.behind =
    ap (λ t. before ++ t) (b.bytes_are ∙ ap (λ t. t ++ b.behind) b.is.2) ∙ sym (append_assoc before (encode_utf8 c) b.behind) in
    let long : 0 < length (encode_utf8 c) = some-bytes c in
    let fits : length (before ++ encode_utf8 c) ≤ length (before ++ rest) = omega (arith, ap length split, length-append (before ++ encode_utf8 c) b.behind) in
    let front : take (length (before ++ encode_utf8 c)) (before ++ rest) ≡ before ++ encode_utf8 c =
    ap (take (length (before ++ encode_utf8 c))) split ∙ take-append_seam (before ++ encode_utf8 c) b.behind in
    is.longest (length (before ++ encode_utf8 c)) (omega (arith, length-append before (encode_utf8 c))) fits
    (subst IsUtf8 (sym front) (IsUtf8-append before (encode_utf8 c) utf8 (IsUtf8-encode c b.is.1)))

-- a text that no character follows is the longest
pub text-stops : (before rest : List ℕ) (n : ℕ) → IsTextFront (before ++ rest) n → IsUtf8 before → (Begins IsCharacter rest → ⊥) → length before ≡ n
text-stops before rest n is utf8 never = by_order (grind arith)
  where
    size : length (before ++ rest) ≡ length before + length rest
    size = length-append before rest

    by_order : (length before ≡ n) ⊎ ((n < length before) ⊎ (length before < n)) → length before ≡ n
    by_order (inl same) = same
    by_order (inr (inl past)) =
        absurd (is.longest (length before) past (omega (arith, size)) (subst IsUtf8 (sym (take-append_seam before rest)) utf8))
    by_order (inr (inr short)) =
        let front = front-split before rest n (omega arith) in
        let more : IsUtf8 (take (n - length before) rest) = text-rest before (take (n - length before) rest) utf8 (subst IsUtf8 front is.text) in
        let long : 0 < length (take (n - length before) rest) = omega (arith, length-take-le (n - length before) rest (omega (arith, size, is.within))) in
        absurd (never (subst (Begins IsCharacter) (take-append-drop (n - length before) rest) (utf8-begins (take (n - length before) rest) (drop (n - length before) rest) long more)))

-- where a text ends before the longest does, a character follows
pub text-goes_on : (before rest : List ℕ) (n : ℕ) → IsTextFront (before ++ rest) n → IsUtf8 before → length before < n → Begins IsCharacter rest
text-goes_on before rest n is utf8 short =
    let size = length-append before rest in
    let front = front-split before rest n (omega arith) in
    let more : IsUtf8 (take (n - length before) rest) = text-rest before (take (n - length before) rest) utf8 (subst IsUtf8 front is.text) in
    let long : 0 < length (take (n - length before) rest) = omega (arith, length-take-le (n - length before) rest (omega (arith, size, is.within))) in
    subst (Begins IsCharacter) (take-append-drop (n - length before) rest) (utf8-begins (take (n - length before) rest) (drop (n - length before) rest) long more)
