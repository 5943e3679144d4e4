-- Names, which stand folded: each ASCII capital letter as the small one.
use Rattle.std.specs.Prelude.{◌≡◌, ℕ, ◌+◌, Bool, if◌then◌else◌, List, [], ◌∷◌, Option, Some, None, is_some}
use Rattle.std.specs.BTreeMap.{get_by_text}
use Rattle.std.specs.List.{list_any}
use Rattle.std.specs.Str.{bytes_eq}
use Rattle.folder_rules.specs.declared.names.NameTable.{NameTable}

-- whether a name is one of these
abbrev pub is_among : List (List ℕ) → List ℕ → Bool
is_among names name = list_any (λ x. bytes_eq x name) names

-- the place at which a name stands first, where the first of these has this place
abbrev pub place_from : ℕ → List (List ℕ) → List ℕ → Option ℕ
place_from place [] name = None
place_from place (x ∷ xs) name = if bytes_eq x name then Some place else place_from (place + 1) xs name

-- the place at which a name stands first, counted from 0
abbrev pub place_of : List (List ℕ) → List ℕ → Option ℕ
place_of names name = place_from 0 names name

-- the number that a table has for a name
abbrev pub number_in : NameTable → List ℕ → Option ℕ
number_in table name = get_by_text table.numbers name

-- the first of two that is there
abbrev pub either : {A : Type 0} → Option A → Option A → Option A
either None b = b
either (Some a) b = Some a

-- whether a table has a name
abbrev pub is_known : NameTable → List ℕ → Bool
is_known table name = is_some (number_in table name)

-- a table has these names and no others, each with its place
abbrev pub HasPlaces : NameTable → List (List ℕ) → Type 0
HasPlaces table names = (name : List ℕ) → number_in table name ≡ place_of names name
