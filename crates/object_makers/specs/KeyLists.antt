-- Arrays that get the keys of an associative array.
use Rattle.std.specs.Prelude.{◌≡◌, ℕ, List, [], ◌∷◌, ◌++◌, map, Option, Some, None, slice_get, slice_set}
use Rattle.heap_meaning.specs.Values.{Value, StoreValue, Words, Reference, Entry}
use Rattle.heap_meaning.specs.Keys.{keys_of}
use Rattle.heap_meaning.specs.Store.{ArrayObject, MapObject, Store}
use Rattle.heap_meaning.specs.Stands.{Naming, Outside, meaning, Stands, Agrees}
use Rattle.heap_meaning.specs.Heap.{Heap}
use Rattle.object_operations.specs.Applies.{AreOut}

-- the key as a list
abbrev pub key_list : Option (List ℕ) → List (List ℕ)
key_list (Some key) = key ∷ []
key_list None = []

-- the heap stands for the store under a naming that gives the same of what is out
pub record Renamed (name : Naming) (new : Heap) (store : Store) (before : Outside) : Type 0 where
  pub naming : Naming
  pub agrees : Agrees name naming before
  pub stands : Stands naming new.cells store before

-- whatever the store that the heap stands for, the array has further items at its end: a part of the keys of an associative array
pub record PushesKeys (old new : Heap) (pairs list : Value) (part : List (List ℕ) → List (List ℕ)) : Type 0 where
  pub stands : (name : Naming) (store : Store) (before : Outside) (n m : ℕ) (entries : List (Entry StoreValue)) (items : List StoreValue)
      → Stands name old.cells store before → AreOut (pairs ∷ list ∷ []) before
      → meaning name pairs ≡ Reference n → slice_get store n ≡ Some (MapObject entries)
      → meaning name list ≡ Reference m → slice_get store m ≡ Some (ArrayObject items)
      → Renamed name new (slice_set store m (ArrayObject (items ++ map Words (part (keys_of entries))))) before
