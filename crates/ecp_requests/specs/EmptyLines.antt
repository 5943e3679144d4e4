-- Empty lines behind the first byte of a head.
use Rattle.std.specs.Prelude.{◌≡◌, ℕ, ◌<◌, Bool, true, false, not, ◌&&◌, ◌||◌, ◌==◌, List, [], ◌∷◌, drop, slice_index}

-- neither CR nor LF
abbrev pub is_text : ℕ → Bool
is_text b = not (b == 10) && not (b == 13)

-- an LF and directly after it LF or CR LF
abbrev pub begins_empty_line : List ℕ → Bool
begins_empty_line [] = false
begins_empty_line (a ∷ []) = false
begins_empty_line (a ∷ b ∷ []) = a == 10 && b == 10
begins_empty_line (a ∷ b ∷ c ∷ rest) = a == 10 && (b == 10 || (b == 13 && c == 10))

-- at `line` the line before ends and an empty one follows, behind a byte that is neither CR nor LF
pub record IsEmptyLineAt (bytes : List ℕ) (line : ℕ) : Type 0 where
  pub text : ℕ
  pub before : text < line
  pub text_is : is_text (slice_index bytes text) ≡ true
  pub line_is : begins_empty_line (drop line bytes) ≡ true

abbrev pub HasEmptyLine : List ℕ → Type 0
HasEmptyLine bytes = (line : ℕ) × IsEmptyLineAt bytes line
