-- Associative arrays as finite maps: lists of entries whose keys ascend.
use Rattle.std.specs.Prelude.{◌≡◌, ℕ, ◌<◌, ◌≤◌, List, [], ◌∷◌, ◌++◌, map, length, Option, Some, None, Bool, true, cond, slice_get, slice_set, nat_lt, replicate, ◌-◌}
use Rattle.std.specs.Cmp.Lexicographic.{slice_cmp}
use Rattle.std.specs.Ordering.{nat_cmp, is_lt}
use Rattle.std.specs.List.{filter}
use Rattle.std.specs.Str.{bytes_eq}
use Rattle.heap_meaning.specs.Values.{Entry}

-- one key stands before the other, byte by byte
abbrev pub is_before : List ℕ → List ℕ → Bool
is_before k l = is_lt (slice_cmp nat_cmp k l)

abbrev pub keys_of : {A : Type 0} → List (Entry A) → List (List ℕ)
keys_of entries = map (λ e. e.key) entries

abbrev pub values_of : {A : Type 0} → List (Entry A) → List A
values_of entries = map (λ e. e.value) entries

-- the value at a key
abbrev pub value_at_key : {A : Type 0} → List (Entry A) → List ℕ → Option A
value_at_key [] key = None
value_at_key (e ∷ entries) key = cond (bytes_eq e.key key) (Some e.value) (value_at_key entries key)

abbrev pub before_key : {A : Type 0} → List (Entry A) → List ℕ → List (Entry A)
before_key entries key = filter (λ e. is_before e.key key) entries

abbrev pub after_key : {A : Type 0} → List (Entry A) → List ℕ → List (Entry A)
after_key entries key = filter (λ e. is_before key e.key) entries

-- the entries with this value at the key: those before it, its own, and those after it
abbrev pub with_key : {A : Type 0} → List (Entry A) → List ℕ → A → List (Entry A)
with_key entries key value = before_key entries key ++ record { key = key; value = value } ∷ after_key entries key

-- the entries without the key
abbrev pub without_key : {A : Type 0} → List (Entry A) → List ℕ → List (Entry A)
without_key entries key = before_key entries key ++ after_key entries key

-- the key is none of these, and would stand at this place among them
pub record IsGap (keys : List (List ℕ)) (key : List ℕ) (i : ℕ) : Type 0 where
  pub within : i ≤ length keys
  pub before : (j : ℕ) (k : List ℕ) → j < i → slice_get keys j ≡ Some k → is_before k key ≡ true
  pub after : (j : ℕ) (k : List ℕ) → i ≤ j → slice_get keys j ≡ Some k → is_before key k ≡ true

-- items with this one at a place, after fillers where it lies past the end
abbrev pub placed : {A : Type 0} → A → List A → ℕ → A → List A
placed gap items i item = cond (nat_lt i (length items)) (slice_set items i item) (items ++ replicate (i - length items) gap ++ item ∷ [])
