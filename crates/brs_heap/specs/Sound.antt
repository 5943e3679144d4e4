-- What holds of each heap, and a cell that is written.
use Rattle.std.specs.Prelude.{◌≡◌, ℕ, ◌+◌, ◌^◌, ◌≤◌, Some, slice_set}
use Rattle.chan_values.specs.Portable.{IsKeyList}
use Rattle.heap_meaning.specs.Keys.{keys_of}
use Rattle.heap_meaning.specs.Cells as m
use Rattle.heap_meaning.specs.Cells.{Text, Array, Pairs, Message, HeldCell, Cells, cell_at, count_at}
use Rattle.brs_heap.specs.Content.{content_of}
use Rattle.brs_heap.specs.Slots.{Slots, slot_at}
use Rattle.brs_heap.specs.declared.cell.Cell.{Cell}
use Rattle.brs_heap.specs.declared.cell.Content.{Content}

-- an associative array has its keys folded and in order
abbrev pub InOrder : m.Content → Type 0
InOrder (Text bytes) = Unit {0}
InOrder (Array items) = Unit {0}
InOrder (Pairs entries) = IsKeyList (keys_of entries)
InOrder (Message message) = Unit {0}

-- each share that is left can be counted, and the keys of each cell are in order
pub record IsSound (cells : Cells) (shares : ℕ) : Type 0 where
  pub bound : (k : ℕ) → count_at cells k + shares ≤ 2 ^ 63 + 1
  pub left : shares ≤ 2 ^ 63
  pub ordered : (k : ℕ) (c : HeldCell) → cell_at cells k ≡ Some c → InOrder c.content

-- the cell at this place holds something else, and nothing else has changed
pub record Written (old new : Slots) (k : ℕ) (Change : m.Content → m.Content → Type 0) : Type 0 where
  pub cell : Cell
  pub there : slot_at old k ≡ Some cell
  pub left : Content
  pub sets : new ≡ slice_set old k (Some (record cell { content = left }))
  pub changes : Change (content_of cell.content) (content_of left)
