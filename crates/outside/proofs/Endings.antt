-- Whether a path ends in this.
use Rattle.std.proofs.Common.{◌≡◌, ◌↔◌, ℕ, Bool, true, false, ◌+◌, ◌-◌, ◌<◌, List, length, map, drop, IsTrue, refl, sym, ap, ◌∙◌, arith, length-drop}
use Rattle.std.specs.Char.{to_ascii_lowercase}
use Rattle.std.specs.List.{between}
use Rattle.std.proofs.lemmas.Slice.{between_to_end}
use Rattle.std.proofs.lemmas.Slice.Eq.{bytes_eq-Decides}
use Rattle.std.proofs.lemmas.List.{drop-map, length-map}
use Rattle.outside.specs.Folder.{ends_in}

same_test : (r s : Bool) → (r ≡ true → s ≡ true) → (s ≡ true → r ≡ true) → r ≡ s
same_test true s to from = sym (to refl)
same_test false true to from = from refl
same_test false false to from = refl

-- the end of the path in small letters
lower_end : (ending path : List ℕ) → drop (length (map to_ascii_lowercase path) - length ending) (map to_ascii_lowercase path)
    ≡ map to_ascii_lowercase (between (length path - length ending) (length path) path)
lower_end ending path =
    ap (λ n. drop (n - length ending) (map to_ascii_lowercase path)) (length-map path to_ascii_lowercase)
    ∙ drop-map to_ascii_lowercase (length path - length ending) path
    ∙ ap (map to_ascii_lowercase) (sym (between_to_end path (length path - length ending) (length path) (omega arith)))

pub tested_ending : (ending path : List ℕ) (start : ℕ) (r : Bool) → start + length ending ≡ length path
    → (IsTrue r ↔ (map to_ascii_lowercase (between start (length path) path) ≡ map to_ascii_lowercase ending))
    → map to_ascii_lowercase ending ≡ ending → r ≡ ends_in ending path
tested_ending ending path start r at test small =
    let from : start ≡ length path - length ending = omega (arith, at) in
    let part = ap (λ n. map to_ascii_lowercase (between n (length path) path)) from in
    let decides = bytes_eq-Decides ending (drop (length (map to_ascii_lowercase path) - length ending) (map to_ascii_lowercase path)) in
    same_test r (ends_in ending path)
    (λ t. decides.1 (sym (lower_end ending path ∙ sym part ∙ test.0 t ∙ small)))
    (λ t. test.1 (part ∙ sym (lower_end ending path) ∙ sym (decides.0 t) ∙ sym small))

pub too_short : (ending path : List ℕ) → length path < length ending → false ≡ ends_in ending path
too_short ending path short =
    let lower = map to_ascii_lowercase path in
    let decides = bytes_eq-Decides ending (drop (length lower - length ending) lower) in
    same_test false (ends_in ending path) (λ t. cc)
    (λ t. absurd (omega (arith, ap length (decides.0 t), length-drop (length lower - length ending) lower, length-map path to_ascii_lowercase)))
