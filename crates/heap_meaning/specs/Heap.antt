-- What the calls on a heap do to the store that it stands for.
use Rattle.std.specs.Prelude.{◌≡◌, ℕ, ◌+◌, ◌<◌, List, [], ◌∷◌, ◌++◌, length, Option, Some, None, slice_get, slice_set, option_map}
use Rattle.std.specs.List.{insert, remove}
use Rattle.chan_values.specs.Folded.{folded}
use Rattle.heap_meaning.specs.Values.{Value, Direct, Cell, StoreValue, Words, Reference, Entry, filler_meant}
use Rattle.heap_meaning.specs.Reading.{place_of}
use Rattle.heap_meaning.specs.Keys.{placed, with_key, without_key}
use Rattle.heap_meaning.specs.Store.{Object, ArrayObject, MapObject, Store}
use Rattle.heap_meaning.specs.Cells.{Content, Cells, cell_at, count_at, occurrence}
use Rattle.heap_meaning.specs.Stands.{Naming, Outside, meaning, Stands, Agrees}

-- a heap: its cells, and how often a value may still be shared
pub record Heap : Type 0 where
  pub cells : Cells
  pub shares : ℕ

-- the value is of this heap: it names no cell, or one that has a count
abbrev pub Belongs : Heap → Value → Type 0
Belongs h (Direct plain) = Unit {0}
Belongs h (Cell k) = 0 < count_at h.cells k

-- what the cell at a place holds
abbrev pub content_of_place : Heap → Option ℕ → Option Content
content_of_place h None = None
content_of_place h (Some k) = option_map (λ c. c.content) (cell_at h.cells k)

-- what the value's cell holds
abbrev pub content_at : Heap → Value → Option Content
content_at h v = content_of_place h (place_of v)

abbrev pub no_references : Outside
no_references k = 0

abbrev pub references_of : Value → Outside
references_of v k = occurrence k v

-- the store stays, these references were taken in, and those were given out
abbrev pub Moves : Heap → Heap → (taken given : Outside) → Type 0
Moves old new taken given =
    (name : Naming) (store : Store) (before after : Outside) → Stands name old.cells store before
    → ((k : ℕ) → before k + given k ≡ after k + taken k) → Stands name new.cells store after

-- the new naming, what the made value stands for, and that the heap stands for the store
pub record Made (name : Naming) (new : Heap) (store : Store) (before after : Outside) (v : Value) (w : StoreValue) : Type 0 where
  pub naming : Naming
  pub agrees : Agrees name naming before
  pub shows : meaning naming v ≡ w
  pub stands : Stands naming new.cells store after

-- a text was made
abbrev pub MakesText : Heap → Heap → Value → List ℕ → Type 0
MakesText old new v bytes =
    (name : Naming) (store : Store) (before after : Outside) → Stands name old.cells store before
    → ((k : ℕ) → after k ≡ occurrence k v + before k) → Made name new store before after v (Words bytes)

-- this object was made, with the next number
abbrev pub MakesObject : Heap → Heap → Value → Object → Type 0
MakesObject old new v object =
    (name : Naming) (store : Store) (before after : Outside) → Stands name old.cells store before
    → ((k : ℕ) → after k ≡ occurrence k v + before k) → Made name new (store ++ object ∷ []) before after v (Reference (length store))

-- the array changes in this way; these references were taken in, and those were given out
abbrev pub WritesArray : Heap → Heap → Value → (Naming → List StoreValue → List StoreValue) → (taken given : Outside) → Type 0
WritesArray old new v change taken given =
    (name : Naming) (store : Store) (before after : Outside) (n : ℕ) (items : List StoreValue) → Stands name old.cells store before
    → Belongs old v → meaning name v ≡ Reference n → slice_get store n ≡ Some (ArrayObject items)
    → ((k : ℕ) → before k + given k ≡ after k + taken k)
    → Stands name new.cells (slice_set store n (ArrayObject (change name items))) after

-- the associative array changes in this way; these references were taken in, and those were given out
abbrev pub WritesMap : Heap → Heap → Value → (Naming → List (Entry StoreValue) → List (Entry StoreValue)) → (taken given : Outside) → Type 0
WritesMap old new v change taken given =
    (name : Naming) (store : Store) (before after : Outside) (n : ℕ) (entries : List (Entry StoreValue)) → Stands name old.cells store before
    → Belongs old v → meaning name v ≡ Reference n → slice_get store n ≡ Some (MapObject entries)
    → ((k : ℕ) → before k + given k ≡ after k + taken k)
    → Stands name new.cells (slice_set store n (MapObject (change name entries))) after

-- the item is the array's at this place; what stood there is released
abbrev pub SetsItem : Heap → Heap → Value → ℕ → Value → Type 0
SetsItem old new v i item = WritesArray old new v (λ name items. placed filler_meant items i (meaning name item)) (references_of item) no_references

-- the item is the array's at this place, and those from there on stand one place further
abbrev pub InsertsItem : Heap → Heap → Value → ℕ → Value → Type 0
InsertsItem old new v i item = WritesArray old new v (λ name items. insert items i (meaning name item)) (references_of item) no_references

-- the item at this place is out, and those after it stand one place nearer
abbrev pub TakesItem : Heap → Heap → Value → ℕ → Value → Type 0
TakesItem old new v i item = WritesArray old new v (λ name items. remove items i) no_references (references_of item)

-- the item is the value at the folded key; what stood there is released
abbrev pub SetsKey : Heap → Heap → Value → List ℕ → Value → Type 0
SetsKey old new v key item = WritesMap old new v (λ name entries. with_key entries (folded key) (meaning name item)) (references_of item) no_references

-- the value at the folded key is out, and the key is gone
abbrev pub TakesKey : Heap → Heap → Value → List ℕ → Value → Type 0
TakesKey old new v key item = WritesMap old new v (λ name entries. without_key entries (folded key)) no_references (references_of item)
