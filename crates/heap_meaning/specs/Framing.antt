-- What calls that make and change cells leave as it was.
use Rattle.std.specs.Prelude.{◌≡◌, ◌≢◌, ℕ, ◌≤◌, List, Some, None}
use Rattle.heap_meaning.specs.Values.{Value, Cell, filler, Entry}
use Rattle.heap_meaning.specs.Keys.{placed, value_at_key, with_key}
use Rattle.heap_meaning.specs.Cells.{Content, Array, Pairs, HeldCell, cell_at}
use Rattle.heap_meaning.specs.Reading.{length_in, value_in}
use Rattle.heap_meaning.specs.Heap.{Heap, content_at}

-- a cell was made where none was, and the others are as before
pub record Fresh (old new : Heap) (v : Value) (content : Content) : Type 0 where
  pub place : ℕ
  pub is : v ≡ Cell place
  pub vacant : cell_at old.cells place ≡ None
  pub holds : cell_at new.cells place ≡ Some (record { count = 1; content = content })
  pub others : (k : ℕ) → k ≢ place → cell_at new.cells k ≡ cell_at old.cells k

-- the value's cell holds what `change` makes of it, and its count and the other cells are as before
pub record Rewritten (old new : Heap) (v : Value) (Change : Content → Content → Type 0) : Type 0 where
  pub place : ℕ
  pub is : v ≡ Cell place
  pub cell : HeldCell
  pub was : cell_at old.cells place ≡ Some cell
  pub content : Content
  pub holds : cell_at new.cells place ≡ Some (record { count = cell.count; content = content })
  pub changes : Change cell.content content
  pub others : (k : ℕ) → k ≢ place → cell_at new.cells k ≡ cell_at old.cells k

-- the items of an array change in this way
pub record ItemsChange (change : List Value → List Value) (before after : Content) : Type 0 where
  pub items : List Value
  pub was : before ≡ Array items
  pub is : after ≡ Array (change items)

-- the entries of an associative array change in this way
pub record EntriesChange (change : List (Entry Value) → List (Entry Value)) (before after : Content) : Type 0 where
  pub entries : List (Entry Value)
  pub was : before ≡ Pairs entries
  pub is : after ≡ Pairs (change entries)

-- where the item lies past the end, the array has it there
abbrev pub Grows : Heap → Heap → Value → ℕ → Value → Type 0
Grows old new v i item = length_in (content_at old v) ≤ i → Rewritten old new v (ItemsChange (λ items. placed filler items i item))

-- where the key is new, the associative array has it
abbrev pub GrowsByKey : Heap → Heap → Value → List ℕ → Value → Type 0
GrowsByKey old new v key item = value_in (content_at old v) key ≡ None → Rewritten old new v (EntriesChange (λ entries. with_key entries key item))

-- each cell that was there is as it was
abbrev pub Keeps : Heap → Heap → Type 0
Keeps old new = (k : ℕ) (cell : HeldCell) → cell_at old.cells k ≡ Some cell → cell_at new.cells k ≡ Some cell
