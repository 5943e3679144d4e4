-- Names in ascending byte order.
use Rattle.std.specs.Prelude.{ℕ, zero, suc, if◌then◌else◌, List, [], ◌∷◌, Option, Some, None, filter}
use Rattle.ordered_names.specs.Values.{is_before}

-- the earlier of two names, or the one that is there
abbrev pub earlier : Option (List ℕ) → Option (List ℕ) → Option (List ℕ)
earlier None b = b
earlier (Some a) None = Some a
earlier (Some a) (Some b) = Some (if is_before b a then b else a)

-- the least of names
abbrev pub least : List (List ℕ) → Option (List ℕ)
least [] = None
least (x ∷ xs) = earlier (Some x) (least xs)

-- the names behind one that is there
abbrev pub behind_one : Option (List ℕ) → List (List ℕ) → List (List ℕ)
behind_one None names = []
behind_one (Some name) names = filter (is_before name) names

-- The name at a place, counted from 0, of names that ascend and of which none stands twice: the least, and then those of the names behind the least.
abbrev pub name_at : ℕ → List (List ℕ) → Option (List ℕ)
name_at zero names = least names
name_at (suc n) names = name_at n (behind_one (least names) names)
