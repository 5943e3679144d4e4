-- Reads and writes of members and of indexes.
use Rattle.std.specs.Prelude.{ℕ, ℤ, pos, negsuc, ◌^◌, List, [], ◌∷◌, Option, Some, None, slice_get, cond, nat_lt}
use Rattle.chan_values.specs.declared.error_code.ErrorCode.TheVariants.{E2, E4, E6, E12}
use Rattle.heap_meaning.specs.Values.{StoreValue, Scalar, Words, Reference, filler_meant}
use Rattle.heap_meaning.specs.Keys.{placed}
use Rattle.heap_meaning.specs.Store.{Object, ArrayObject, MapObject, Store}
use Rattle.object_operations.specs.Answer.{Answer, Gives, Raises, invalid, or_invalid, number_in, text_of, item_at, with_items}
use Rattle.object_operations.specs.Receivers.{no_member}
use Rattle.object_operations.specs.Maps.{looked_up, put_row}

-- `x.k`
abbrev pub member_read : Option Object → StoreValue → Store → Answer
member_read (Some (MapObject entries)) k store = looked_up entries (text_of k) store
member_read _ k store = Raises E4

abbrev pub read_member_row : List StoreValue → Store → Answer
read_member_row (Scalar plain ∷ k ∷ []) store = no_member plain E4
read_member_row (Words bytes ∷ k ∷ []) store = Raises E4
read_member_row (Reference n ∷ k ∷ []) store = member_read (slice_get store n) k store
read_member_row _ store = Raises E6

-- `x.k = v`
abbrev pub member_written : ℕ → Option Object → StoreValue → StoreValue → Store → Answer
member_written n (Some (MapObject entries)) k v store = put_row n entries (text_of k) v store
member_written n _ k v store = Raises E4

abbrev pub write_member_row : List StoreValue → Store → Answer
write_member_row (Scalar plain ∷ k ∷ v ∷ []) store = no_member plain E4
write_member_row (Words bytes ∷ k ∷ v ∷ []) store = Raises E4
write_member_row (Reference n ∷ k ∷ v ∷ []) store = member_written n (slice_get store n) k v store
write_member_row _ store = Raises E6

-- an array at a number: `invalid` outside the array
abbrev pub item_read : List StoreValue → Option ℤ → Store → Answer
item_read items (Some i) store = Gives (or_invalid (item_at items i)) store
item_read items None store = Raises E2

-- `x[i]`
abbrev pub index_read : Option Object → StoreValue → Store → Answer
index_read (Some (ArrayObject items)) i store = item_read items (number_in i) store
index_read (Some (MapObject entries)) i store = looked_up entries (text_of i) store
index_read _ i store = Raises E2

abbrev pub read_index_row : List StoreValue → Store → Answer
read_index_row (Scalar plain ∷ i ∷ []) store = no_member plain E2
read_index_row (Words bytes ∷ i ∷ []) store = Raises E2
read_index_row (Reference n ∷ i ∷ []) store = index_read (slice_get store n) i store
read_index_row _ store = Raises E6

-- an array at a number: past the end it grows with `invalid`
abbrev pub item_written : ℕ → List StoreValue → Option ℤ → StoreValue → Store → Answer
item_written n items (Some (pos i)) v store = cond (nat_lt i (2 ^ 20)) (Gives invalid (with_items n (placed filler_meant items i v) store)) (Raises E12)
item_written n items (Some (negsuc i)) v store = Raises E2
item_written n items None v store = Raises E2

-- `x[i] = v`
abbrev pub index_written : ℕ → Option Object → StoreValue → StoreValue → Store → Answer
index_written n (Some (ArrayObject items)) i v store = item_written n items (number_in i) v store
index_written n (Some (MapObject entries)) i v store = put_row n entries (text_of i) v store
index_written n _ i v store = Raises E2

abbrev pub write_index_row : List StoreValue → Store → Answer
write_index_row (Scalar plain ∷ i ∷ v ∷ []) store = no_member plain E2
write_index_row (Words bytes ∷ i ∷ v ∷ []) store = Raises E2
write_index_row (Reference n ∷ i ∷ v ∷ []) store = index_written n (slice_get store n) i v store
write_index_row _ store = Raises E6

-- the same for array n with its items, by the arguments after the array
abbrev pub read_item : ℕ → List StoreValue → List StoreValue → Store → Answer
read_item n items (i ∷ []) store = item_read items (number_in i) store
read_item n items _ store = Raises E6

abbrev pub write_item : ℕ → List StoreValue → List StoreValue → Store → Answer
write_item n items (i ∷ v ∷ []) store = item_written n items (number_in i) v store
write_item n items _ store = Raises E6
