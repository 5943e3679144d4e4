-- Names that are numbered in the order in which they came.
use Rattle.std.specs.Prelude.{◌≡◌, ℕ, Bool, List, [], ◌∷◌, ◌++◌, if◌then◌else◌, nat_eq, slice_get, Some}
use Rattle.std.specs.List.{list_any}
use Rattle.std.specs.Cmp.Lexicographic.{pointwise}

abbrev pub is_name : List ℕ → List ℕ → Bool
is_name x y = pointwise nat_eq x y

-- a name that is new goes last
abbrev pub with_name : List (List ℕ) → List ℕ → List (List ℕ)
with_name names x = if list_any (is_name x) names then names else names ++ x ∷ []

-- no two slots have one name
abbrev pub AreDistinct : List (List ℕ) → Type 0
AreDistinct names = (a b : ℕ) (x : List ℕ) → slice_get names a ≡ Some x → slice_get names b ≡ Some x → a ≡ b
