-- The methods of arrays, for array n with its items.
use Rattle.std.specs.Prelude.{ℕ, ℤ, pos, negsuc, true, false, ◌+◌, ◌-◌, ◌^◌, List, [], ◌∷◌, ◌++◌, length, Option, Some, None, slice_get, cond, nat_le}
use Rattle.std.specs.List.{insert, remove}
use Rattle.chan_values.specs.declared.error_code.ErrorCode.TheVariants.{E2, E6, E12}
use Rattle.heap_meaning.specs.Values.{StoreValue}
use Rattle.heap_meaning.specs.Store.{Store}
use Rattle.object_operations.specs.Answer.{Answer, Gives, Raises, invalid, truth, counted, or_invalid, number_in, items_of, with_items, if_room}
use Rattle.object_operations.specs.Receivers.{on_array}
use Rattle.object_operations.specs.declared.array_method.ArrayMethod.{ArrayMethod}
use Rattle.object_operations.specs.declared.array_method.ArrayMethod.TheVariants.{Push, Unshift, Pop, Shift, Peek, Delete, Count, Clear, Append}

-- the item at a place is taken out, or `invalid` where there is none
abbrev pub took : ℕ → List StoreValue → ℕ → Option StoreValue → Store → Answer
took n items i (Some v) store = Gives v (with_items n (remove items i) store)
took n items i None store = Gives invalid store

abbrev pub taken : ℕ → List StoreValue → ℕ → Store → Answer
taken n items i store = took n items i (slice_get items i) store

-- whether there was an item at a place, which is then gone
abbrev pub removed : ℕ → List StoreValue → ℕ → Option StoreValue → Store → Answer
removed n items i (Some v) store = Gives (truth true) (with_items n (remove items i) store)
removed n items i None store = Gives (truth false) store

abbrev pub deleted : ℕ → List StoreValue → Option ℤ → Store → Answer
deleted n items (Some (pos i)) store = removed n items i (slice_get items i) store
deleted n items (Some (negsuc i)) store = Gives (truth false) store
deleted n items None store = Raises E2

-- further items at the end; the length is judged first
abbrev pub appended : ℕ → List StoreValue → Option (List StoreValue) → Store → Answer
appended n items (Some more) store = cond (nat_le (length items + length more) (2 ^ 20)) (Gives invalid (with_items n (items ++ more) store)) (Raises E12)
appended n items None store = Raises E2

-- methods without arguments
abbrev pub bare_array_row : ArrayMethod → ℕ → List StoreValue → Store → Answer
bare_array_row Pop n items store = taken n items (length items - 1) store
bare_array_row Shift n items store = taken n items 0 store
bare_array_row Peek n items store = Gives (or_invalid (slice_get items (length items - 1))) store
bare_array_row Count n items store = Gives (counted (length items)) store
bare_array_row Clear n items store = Gives invalid (with_items n [] store)
bare_array_row _ n items store = Raises E6

-- methods with one argument
abbrev pub array_row_with : ArrayMethod → ℕ → List StoreValue → StoreValue → Store → Answer
array_row_with Push n items v store = if_room (length items) (Gives invalid (with_items n (items ++ v ∷ []) store))
array_row_with Unshift n items v store = if_room (length items) (Gives invalid (with_items n (v ∷ items) store))
array_row_with Delete n items i store = deleted n items (number_in i) store
array_row_with Append n items a store = appended n items (items_of a store) store
array_row_with _ n items v store = Raises E6

abbrev pub method_of_array : ArrayMethod → ℕ → List StoreValue → List StoreValue → Store → Answer
method_of_array method n items [] store = bare_array_row method n items store
method_of_array method n items (v ∷ []) store = array_row_with method n items v store
method_of_array method n items _ store = Raises E6

-- a call of a method of arrays
abbrev pub array_row : ArrayMethod → List StoreValue → Store → Answer
array_row method = on_array (method_of_array method)

-- an item goes before those from a place on
abbrev pub inserted : ℕ → ℕ → List StoreValue → List StoreValue → Store → Answer
inserted i n items (v ∷ []) store = if_room (length items) (Gives invalid (with_items n (insert items i v) store))
inserted i n items _ store = Raises E6

-- the item as a list
abbrev pub item_list : Option StoreValue → List StoreValue
item_list (Some v) = v ∷ []
item_list None = []
