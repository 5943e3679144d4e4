-- What a read from a place in a list gives.
use Rattle.std.proofs.Common.{◌≡◌, ℕ, ◌+◌, ◌-◌, ◌<◌, min, List, [], ◌++◌, length, take, drop, subst, sym, ap, ◌∙◌, arith, length-drop, length-take, ◌≤◌, ◌↔◌}
use Rattle.std.proofs.Math.Seq.{take-append_seam}
use Rattle.std.proofs.lemmas.List.{take-append-drop, drop-drop, nil_from_length, take-append-le}

front_part : (from : ℕ) (bytes copied rest : List ℕ) → copied ≡ take (length copied) (drop from bytes)
    → drop from bytes ≡ take (length copied) (copied ++ rest) ++ drop (from + length copied) bytes
front_part from bytes copied rest same =
    let n = length copied in
    sym (take-append-drop n (drop from bytes)) ∙ ap (λ l. l ++ drop n (drop from bytes)) (sym same ∙ sym (take-append_seam copied rest))
    ∙ ap (λ l. take n (copied ++ rest) ++ l) (drop-drop n from bytes)

-- the bytes copied to the front are the front of what is left
pub read_front : (from n : ℕ) (bytes copied rest : List ℕ) → copied ≡ take n (drop from bytes) → length copied ≡ n
    → drop from bytes ≡ take n (copied ++ rest) ++ drop (from + n) bytes
read_front from n bytes copied rest same count =
    subst (λ m. drop from bytes ≡ take m (copied ++ rest) ++ drop (from + m) bytes) count (front_part from bytes copied rest (same ∙ ap (λ m. take m (drop from bytes)) (sym count)))

-- a read with room that gives nothing leaves nothing
pub read_end : (from n room most : ℕ) (bytes : List ℕ) → n ≡ min (min (length bytes - from) room) most → 0 < room → 0 < most → n ≡ 0 → drop (from + n) bytes ≡ []
read_end from n room most bytes count some any none =
    nil_from_length _ (omega (arith, length-drop (from + n) bytes))

-- what was copied is the front of what was left
pub read_next : (from n : ℕ) (bytes copied : List ℕ) → drop from bytes ≡ take n copied ++ drop (from + n) bytes → n ≤ length copied
    → take n copied ≡ take n (drop from bytes)
read_next from n bytes copied front room =
    let long : length (take n copied) ≡ n = omega (arith, length-take n copied, room) in
    sym (ap (take n) front ∙ ap (λ m. take m (take n copied ++ drop (from + n) bytes)) (sym long) ∙ take-append_seam (take n copied) (drop (from + n) bytes))

-- nothing was copied exactly where nothing was left
pub read_nothing : (from n : ℕ) (bytes copied : List ℕ) → drop from bytes ≡ take n copied ++ drop (from + n) bytes → from + n ≤ length bytes
    → (n ≡ 0 → drop (from + n) bytes ≡ []) → (n ≡ 0) ↔ (drop from bytes ≡ [])
read_nothing from n bytes copied front within end =
    (λ none. subst (λ m. drop m bytes ≡ []) (omega (arith, none)) (end none), λ none. omega (arith, ap length none, length-drop from bytes, within))
