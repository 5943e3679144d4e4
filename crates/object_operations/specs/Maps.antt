-- The methods of associative arrays, for associative array n with its entries.
use Rattle.std.specs.Prelude.{ℕ, true, false, ◌+◌, ◌^◌, List, [], ◌∷◌, ◌++◌, map, length, Option, Some, None, cond, nat_le}
use Rattle.std.specs.Option.{is_some}
use Rattle.chan_values.specs.Folded.{folded}
use Rattle.chan_values.specs.declared.error_code.ErrorCode.TheVariants.{E2, E6, E12}
use Rattle.heap_meaning.specs.Values.{StoreValue, Words, Reference, Entry}
use Rattle.heap_meaning.specs.Keys.{keys_of, value_at_key, with_key, without_key}
use Rattle.heap_meaning.specs.Store.{ArrayObject, Store}
use Rattle.object_operations.specs.Answer.{Answer, Gives, Raises, invalid, truth, counted, or_invalid, text_of, entries_of, with_entries, if_room}
use Rattle.object_operations.specs.Receivers.{on_map}
use Rattle.object_operations.specs.declared.map_method.MapMethod.{MapMethod}
use Rattle.object_operations.specs.declared.map_method.MapMethod.TheVariants.{AddReplace, Clear, Lookup, DoesExist, Delete, Count}

-- the value at a folded key, which needs room where the key is new
abbrev pub put_at : ℕ → List (Entry StoreValue) → List ℕ → Option StoreValue → StoreValue → Store → Answer
put_at n entries key (Some old) v store = Gives invalid (with_entries n (with_key entries key v) store)
put_at n entries key None v store = if_room (length entries) (Gives invalid (with_entries n (with_key entries key v) store))

abbrev pub put_row : ℕ → List (Entry StoreValue) → Option (List ℕ) → StoreValue → Store → Answer
put_row n entries (Some key) v store = put_at n entries (folded key) (value_at_key entries (folded key)) v store
put_row n entries None v store = Raises E2

-- the value at a key, or `invalid` without it
abbrev pub looked_up : List (Entry StoreValue) → Option (List ℕ) → Store → Answer
looked_up entries (Some key) store = Gives (or_invalid (value_at_key entries (folded key))) store
looked_up entries None store = Raises E2

abbrev pub existing : List (Entry StoreValue) → Option (List ℕ) → Store → Answer
existing entries (Some key) store = Gives (truth (is_some (value_at_key entries (folded key)))) store
existing entries None store = Raises E2

-- whether the key was there, which is then gone
abbrev pub removed_key : ℕ → List (Entry StoreValue) → List ℕ → Option StoreValue → Store → Answer
removed_key n entries key (Some v) store = Gives (truth true) (with_entries n (without_key entries key) store)
removed_key n entries key None store = Gives (truth false) store

abbrev pub deleted_row : ℕ → List (Entry StoreValue) → Option (List ℕ) → Store → Answer
deleted_row n entries (Some key) store = removed_key n entries (folded key) (value_at_key entries (folded key)) store
deleted_row n entries None store = Raises E2

-- the entries with further ones, one after another; a value replaces that of an equal key
abbrev pub joined : List (Entry StoreValue) → List (Entry StoreValue) → List (Entry StoreValue)
joined entries [] = entries
joined entries (e ∷ more) = joined (with_key entries e.key e.value) more

-- how many of the further entries have a key that isn't there
abbrev pub new_keys : List (Entry StoreValue) → List (Entry StoreValue) → ℕ
new_keys entries [] = 0
new_keys entries (e ∷ more) = cond (is_some (value_at_key entries e.key)) 0 1 + new_keys entries more

-- further entries; the number of keys is judged first
abbrev pub joined_row : ℕ → List (Entry StoreValue) → Option (List (Entry StoreValue)) → Store → Answer
joined_row n entries (Some more) store = cond (nat_le (length entries + new_keys entries more) (2 ^ 20)) (Gives invalid (with_entries n (joined entries more) store)) (Raises E12)
joined_row n entries None store = Raises E2

-- `append(aa)`
abbrev pub append_keys_row : ℕ → List (Entry StoreValue) → List StoreValue → Store → Answer
append_keys_row n entries (a ∷ []) store = joined_row n entries (entries_of a store) store
append_keys_row n entries _ store = Raises E6

-- `keys()`: a new array of the keys in ascending order
abbrev pub keys_row : ℕ → List (Entry StoreValue) → List StoreValue → Store → Answer
keys_row n entries [] store = Gives (Reference (length store)) (store ++ ArrayObject (map Words (keys_of entries)) ∷ [])
keys_row n entries _ store = Raises E6

-- methods without arguments
abbrev pub bare_map_row : MapMethod → ℕ → List (Entry StoreValue) → Store → Answer
bare_map_row Clear n entries store = Gives invalid (with_entries n [] store)
bare_map_row Count n entries store = Gives (counted (length entries)) store
bare_map_row _ n entries store = Raises E6

-- methods with one argument
abbrev pub map_row_with : MapMethod → ℕ → List (Entry StoreValue) → StoreValue → Store → Answer
map_row_with Lookup n entries k store = looked_up entries (text_of k) store
map_row_with DoesExist n entries k store = existing entries (text_of k) store
map_row_with Delete n entries k store = deleted_row n entries (text_of k) store
map_row_with _ n entries v store = Raises E6

-- methods with two arguments
abbrev pub map_row_with_two : MapMethod → ℕ → List (Entry StoreValue) → StoreValue → StoreValue → Store → Answer
map_row_with_two AddReplace n entries k v store = put_row n entries (text_of k) v store
map_row_with_two _ n entries k v store = Raises E6

abbrev pub method_of_map : MapMethod → ℕ → List (Entry StoreValue) → List StoreValue → Store → Answer
method_of_map method n entries [] store = bare_map_row method n entries store
method_of_map method n entries (v ∷ []) store = map_row_with method n entries v store
method_of_map method n entries (k ∷ v ∷ []) store = map_row_with_two method n entries k v store
method_of_map method n entries _ store = Raises E6

-- a call of a method of associative arrays
abbrev pub map_row : MapMethod → List StoreValue → Store → Answer
map_row method = on_map (method_of_map method)
