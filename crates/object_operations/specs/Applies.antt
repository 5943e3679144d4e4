-- What it means that an operation was applied to values of a heap.
use Rattle.std.specs.Prelude.{◌≡◌, ℕ, ◌+◌, ◌≤◌, List, [], ◌∷◌, ◌++◌, map, Some, slice_get, slice_set}
use Rattle.chan_values.specs.declared.error_code.ErrorCode.{ErrorCode}
use Rattle.heap_meaning.specs.Values.{Value, StoreValue, Reference, Entry}
use Rattle.heap_meaning.specs.Store.{ArrayObject, MapObject, Store}
use Rattle.heap_meaning.specs.Cells.{occurrence, occurrences}
use Rattle.heap_meaning.specs.Stands.{Naming, Outside, meaning, Stands, Agrees}
use Rattle.heap_meaning.specs.Heap.{Heap}
use Rattle.object_operations.specs.Answer.{Answer, Gives, Raises}
use Rattle.object_operations.specs.Receivers.{ArrayRow, MapRow}
use Rattle.object_operations.specs.declared.applied.Applied.{Applied}
use Rattle.object_operations.specs.declared.applied.Applied.TheVariants as a

-- the value of the heap stands for this one, and the heap for this store, with the value out
pub record Gave (name : Naming) (new : Heap) (store : Store) (before : Outside) (v : Value) (w : StoreValue) : Type 0 where
  pub naming : Naming
  pub agrees : Agrees name naming before
  pub shows : meaning naming v ≡ w
  pub stands : Stands naming new.cells store (λ k. occurrence k v + before k)

-- this error was raised, and nothing has changed: the heap stands for the same store, with the same out
pub record Refused (name : Naming) (new : Heap) (store : Store) (before : Outside) (error wanted : ErrorCode) : Type 0 where
  pub same : error ≡ wanted
  pub stands : Stands name new.cells store before

-- the answer is that of a row of this store
abbrev pub Answers : Naming → Heap → Store → Outside → Applied → Answer → Type 0
Answers name new old before (a.Value v) (Gives w store) = Gave name new store before v w
Answers name new old before (a.Value v) (Raises error) = ⊥
Answers name new old before (a.Raised error) (Gives w store) = ⊥
Answers name new old before (a.Raised error) (Raises wanted) = Refused name new old before error wanted

-- these values are out
abbrev pub AreOut : List Value → Outside → Type 0
AreOut values before = (k : ℕ) → occurrences k values ≤ before k

-- whatever the store that the heap stands for, the answer is that of the row; the arguments stay out
pub record Applies (old new : Heap) (arguments : List Value) (r : Applied) (row : List StoreValue → Store → Answer) : Type 0 where
  pub answers : (name : Naming) (store : Store) (before : Outside) → Stands name old.cells store before → AreOut arguments before
      → Answers name new store before r (row (map (meaning name) arguments) store)

-- the same for an array and arguments of its method, where the array is number n with these items
pub record AppliesToArray (old new : Heap) (array : Value) (arguments : List Value) (r : Applied) (row : ArrayRow) : Type 0 where
  pub answers : (name : Naming) (store : Store) (before : Outside) (n : ℕ) (items : List StoreValue)
      → Stands name old.cells store before → AreOut (array ∷ arguments) before
      → meaning name array ≡ Reference n → slice_get store n ≡ Some (ArrayObject items)
      → Answers name new store before r (row n items (map (meaning name) arguments) store)

-- the same for an associative array
pub record AppliesToMap (old new : Heap) (pairs : Value) (arguments : List Value) (r : Applied) (row : MapRow) : Type 0 where
  pub answers : (name : Naming) (store : Store) (before : Outside) (n : ℕ) (entries : List (Entry StoreValue))
      → Stands name old.cells store before → AreOut (pairs ∷ arguments) before
      → meaning name pairs ≡ Reference n → slice_get store n ≡ Some (MapObject entries)
      → Answers name new store before r (row n entries (map (meaning name) arguments) store)

-- whatever the store that the heap stands for, the array's items change in this way
pub record ArrayBecomes (old new : Heap) (array : Value) (change : List StoreValue → List StoreValue) : Type 0 where
  pub stands : (name : Naming) (store : Store) (before : Outside) (n : ℕ) (items : List StoreValue)
      → Stands name old.cells store before → AreOut (array ∷ []) before
      → meaning name array ≡ Reference n → slice_get store n ≡ Some (ArrayObject items)
      → Stands name new.cells (slice_set store n (ArrayObject (change items))) before

-- whatever the store that the heap stands for, the array has further items at its end: a part of those of another one
pub record Appends (old new : Heap) (array from : Value) (part : List StoreValue → List StoreValue) : Type 0 where
  pub stands : (name : Naming) (store : Store) (before : Outside) (n m : ℕ) (items more : List StoreValue)
      → Stands name old.cells store before → AreOut (array ∷ from ∷ []) before
      → meaning name array ≡ Reference n → slice_get store n ≡ Some (ArrayObject items)
      → meaning name from ≡ Reference m → slice_get store m ≡ Some (ArrayObject more)
      → Stands name new.cells (slice_set store n (ArrayObject (items ++ part more))) before

-- whatever the store that the heap stands for, the associative array's entries change in this way
pub record MapBecomes (old new : Heap) (pairs : Value) (change : List (Entry StoreValue) → List (Entry StoreValue)) : Type 0 where
  pub stands : (name : Naming) (store : Store) (before : Outside) (n : ℕ) (entries : List (Entry StoreValue))
      → Stands name old.cells store before → AreOut (pairs ∷ []) before
      → meaning name pairs ≡ Reference n → slice_get store n ≡ Some (MapObject entries)
      → Stands name new.cells (slice_set store n (MapObject (change entries))) before
