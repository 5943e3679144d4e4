-- Associative arrays that get the entries of another one, which may be the same.
use Rattle.std.specs.Prelude.{◌≡◌, ℕ, Bool, List, [], ◌∷◌, Option, Some, None, slice_get, slice_set, cond}
use Rattle.heap_meaning.specs.Values.{Value, StoreValue, Reference, Entry}
use Rattle.heap_meaning.specs.Store.{MapObject, Store}
use Rattle.heap_meaning.specs.Stands.{Naming, Outside, meaning, Stands}
use Rattle.heap_meaning.specs.Heap.{Heap}
use Rattle.object_operations.specs.Maps.{joined, new_keys}
use Rattle.object_operations.specs.Applies.{AreOut}

-- the entry as a list
abbrev pub entry_list : Option (Entry StoreValue) → List (Entry StoreValue)
entry_list (Some e) = e ∷ []
entry_list None = []

-- the heap stands for the store in which associative array n has these entries too, which change nothing where they are its own
pub record Joined (name : Naming) (new : Heap) (store : Store) (before : Outside) (n m : ℕ) (entries part : List (Entry StoreValue)) : Type 0 where
  pub stands : Stands name new.cells (slice_set store n (MapObject (joined entries part))) before
  pub itself : n ≡ m → joined entries part ≡ entries

-- whatever the store that the heap stands for, the associative array gets a part of the entries of the other one
pub record Joins (old new : Heap) (pairs from : Value) (part : List (Entry StoreValue) → List (Entry StoreValue)) : Type 0 where
  pub joins : (name : Naming) (store : Store) (before : Outside) (n m : ℕ) (entries more : List (Entry StoreValue))
      → Stands name old.cells store before → AreOut (pairs ∷ from ∷ []) before
      → meaning name pairs ≡ Reference n → slice_get store n ≡ Some (MapObject entries)
      → meaning name from ≡ Reference m → slice_get store m ≡ Some (MapObject more)
      → Joined name new store before n m entries (part more)

-- whatever the store that the heap stands for, so many keys of a part of the other one's entries are new
pub record Lacks (h : Heap) (pairs from : Value) (count : ℕ) (part : List (Entry StoreValue) → List (Entry StoreValue)) : Type 0 where
  pub is : (name : Naming) (store : Store) (before : Outside) (n m : ℕ) (entries more : List (Entry StoreValue))
      → Stands name h.cells store before → AreOut (pairs ∷ from ∷ []) before
      → meaning name pairs ≡ Reference n → slice_get store n ≡ Some (MapObject entries)
      → meaning name from ≡ Reference m → slice_get store m ≡ Some (MapObject more)
      → count ≡ new_keys entries (part more)

-- the same of the key at one place
abbrev pub LacksKey : Heap → Value → Value → ℕ → Bool → Type 0
LacksKey h pairs from at new = Lacks h pairs from (cond new 1 0) (λ more. entry_list (slice_get more at))
