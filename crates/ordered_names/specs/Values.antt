-- Names with values.
use Rattle.std.specs.Prelude.{◌≡◌, ℕ, ◌<◌, Bool, List, Option, Some, None, length, filter, slice_index_or}
use Rattle.std.specs.BTreeMap.{get_by_text}
use Rattle.std.specs.Cmp.Lexicographic.{slice_cmp}
use Rattle.std.specs.List.Sorted.{IsStrictlySortedBy}
use Rattle.std.specs.Map.{keys_of, lookup}
use Rattle.std.specs.Ordering.{is_lt, nat_cmp}
use Rattle.std.specs.Str.{bytes_eq}
use Rattle.ordered_names.specs.declared.draft.NameDraft.{NameDraft}

-- the value of a name
abbrev pub value_of : {V : Type 0} → List (List ℕ × V) → List ℕ → Option V
value_of entries name = lookup (λ other. bytes_eq other name) entries

-- the value that a draft has for a name
abbrev pub value_in : {V : Type 0} → NameDraft V → List ℕ → Option V
value_in draft name = get_by_text draft.values name

-- whether a name stands before another in byte order
abbrev pub is_before : List ℕ → List ℕ → Bool
is_before a b = is_lt (slice_cmp nat_cmp a b)

-- the names ascend, so that none stands twice
abbrev pub IsAscending : {V : Type 0} → List (List ℕ × V) → Type 0
IsAscending entries = IsStrictlySortedBy (slice_cmp nat_cmp) (keys_of entries)

-- the names behind a name, or all where there is none
abbrev pub behind : Option (List ℕ) → List (List ℕ) → List (List ℕ)
behind None names = names
behind (Some name) names = filter (is_before name) names

-- the value of a name stands at a place
pub record IsAt {V : Type 0} (entries : List (List ℕ × V)) (name : List ℕ) (at : ℕ) : Type 0 where
  pub within : at < length entries
  pub is : (none : List ℕ × V) → let entry = slice_index_or entries at none in Some entry.1 ≡ value_of entries name
