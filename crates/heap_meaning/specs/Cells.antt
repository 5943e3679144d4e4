-- The cells of a heap by place, each with its count and what it holds.
use Rattle.std.specs.Prelude.{◌≡◌, ◌≢◌, ℕ, ◌+◌, ◌<◌, List, [], ◌∷◌, Option, Some, None, slice_index_or, cond, ◌==◌}
use Rattle.chan_values.specs.declared.message.Message as m
use Rattle.heap_meaning.specs.Values.{Value, Cell, Entry}
use Rattle.heap_meaning.specs.Keys.{values_of}

-- what a cell holds
pub data Content : Type 0 where
  Text : (bytes : List ℕ) → Content
  Array : (items : List Value) → Content
  Pairs : (entries : List (Entry Value)) → Content
  Message : (message : m.Message) → Content

-- a cell: how many references there are to it, and what it holds
pub record HeldCell : Type 0 where
  pub count : ℕ
  pub content : Content

abbrev pub Cells : Type 0
Cells = List (Option HeldCell)

-- how often a value names cell k
abbrev pub occurrence : ℕ → Value → ℕ
occurrence k (Cell j) = cond (k == j) 1 0
occurrence k _ = 0

abbrev pub occurrences : ℕ → List Value → ℕ
occurrences k [] = 0
occurrences k (v ∷ vs) = occurrence k v + occurrences k vs

-- the values that a cell holds
abbrev pub inner : Content → List Value
inner (Text bytes) = []
inner (Array items) = items
inner (Pairs entries) = values_of entries
inner (Message message) = []

abbrev pub inner_of : Option HeldCell → List Value
inner_of None = []
inner_of (Some c) = inner c.content

abbrev pub count_of : Option HeldCell → ℕ
count_of None = 0
count_of (Some c) = c.count

abbrev pub cell_at : Cells → ℕ → Option HeldCell
cell_at cells k = slice_index_or cells k None

-- the count of a cell, 0 where there is none
abbrev pub count_at : Cells → ℕ → ℕ
count_at cells k = count_of (cell_at cells k)

-- the references to cell k from the items of all cells
abbrev pub item_references : ℕ → Cells → ℕ
item_references k [] = 0
item_references k (c ∷ cells) = occurrences k (inner_of c) + item_references k cells

-- the new cells have this at place j, and elsewhere what the old ones have
pub record ChangesCell (old new : Cells) (j : ℕ) (cell : Option HeldCell) : Type 0 where
  pub changed : cell_at new j ≡ cell
  pub others : (k : ℕ) → k ≢ j → cell_at new k ≡ cell_at old k

-- no cell has count 0
abbrev pub Alive : Cells → Type 0
Alive cells = (k : ℕ) (c : HeldCell) → cell_at cells k ≡ Some c → 0 < c.count
