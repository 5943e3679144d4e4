-- How a heap stands for a store.
use Rattle.std.specs.Prelude.{◌≡◌, ℕ, ◌+◌, ◌<◌, map, length, Some, slice_get}
use Rattle.heap_meaning.specs.Values.{Value, Direct, Cell, StoreValue, Scalar, Words, Reference, Entry}
use Rattle.heap_meaning.specs.Store.{ArrayObject, MapObject, MessageObject, Store, Reclaimed}
use Rattle.heap_meaning.specs.Cells.{Content, Text, Array, Pairs, Message, HeldCell, Cells, cell_at, count_at, item_references}

-- what each cell stands for: a text, or the number of an object
abbrev pub Naming : Type 0
Naming = ℕ → StoreValue

-- so many references to each cell are out, which means that they are no items of cells
abbrev pub Outside : Type 0
Outside = ℕ → ℕ

-- the value of the store for which a value of the heap stands
abbrev pub meaning : Naming → Value → StoreValue
meaning name (Direct plain) = Scalar plain
meaning name (Cell k) = name k

abbrev pub entry_meaning : Naming → Entry Value → Entry StoreValue
entry_meaning name e = record { key = e.key; value = meaning name e.value }

-- a cell with this content stands for the value
abbrev pub CellFits : Naming → Store → StoreValue → Content → Type 0
CellFits name store w (Text bytes) = w ≡ Words bytes
CellFits name store w (Array items) = (n : ℕ) × (w ≡ Reference n) × (slice_get store n ≡ Some (ArrayObject (map (meaning name) items)))
CellFits name store w (Pairs entries) = (n : ℕ) × (w ≡ Reference n) × (slice_get store n ≡ Some (MapObject (map (entry_meaning name) entries)))
CellFits name store w (Message message) = (n : ℕ) × (w ≡ Reference n) × (slice_get store n ≡ Some (MessageObject message))

-- a reference that is out names the object
pub record Rooted (name : Naming) (outside : Outside) (n : ℕ) : Type 0 where
  pub place : ℕ
  pub out : 0 < outside place
  pub names : name place ≡ Reference n

-- no cell with a count stands for the object
abbrev pub Unnamed : Naming → Cells → ℕ → Type 0
Unnamed name cells n = (k : ℕ) → 0 < count_at cells k → name k ≡ Reference n → ⊥

-- the counts are exact while these references are out, and each cell with a count has a text or an object of its own
pub record Corresponds (name : Naming) (cells : Cells) (store : Store) (outside : Outside) : Type 0 where
  pub counted : (k : ℕ) → count_at cells k ≡ item_references k cells + outside k
  pub named : (k : ℕ) (c : HeldCell) → cell_at cells k ≡ Some c → 0 < c.count → CellFits name store (name k) c.content
  pub apart : (j k n : ℕ) → 0 < count_at cells j → 0 < count_at cells k → name j ≡ Reference n → name k ≡ Reference n → j ≡ k

-- an object for which no cell with a count stands is reclaimed
abbrev pub Reclaims : Naming → Cells → Store → Outside → Type 0
Reclaims name cells store outside = (n : ℕ) → n < length store → Unnamed name cells n → Reclaimed store (Rooted name outside) n

-- the cells stand for the store while these references are out; cells of count 0 may be there
pub record Stands (name : Naming) (cells : Cells) (store : Store) (outside : Outside) : Type 0 where
  pub corresponds : Corresponds name cells store outside
  pub reclaims : Reclaims name cells store outside

-- both give what the references that are out stand for
abbrev pub Agrees : Naming → Naming → Outside → Type 0
Agrees name name' outside = (k : ℕ) → 0 < outside k → name' k ≡ name k
