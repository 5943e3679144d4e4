-- The slots of a heap's cells.
use Rattle.std.specs.Prelude.{ℕ, ◌+◌, ◌-◌, ◌==◌, cond, List, map, Option, Some, None, slice_set, slice_index_or}
use Rattle.heap_meaning.specs.Cells as m
use Rattle.heap_meaning.specs.Cells.{HeldCell, Cells}
use Rattle.brs_heap.specs.Content.{content_of}
use Rattle.brs_heap.specs.declared.cell.Cell.{Cell}

abbrev pub Slots : Type 0
Slots = List (Option Cell)

abbrev pub shown : Option Cell → Option HeldCell
shown None = None
shown (Some c) = Some (record { count = c.count; content = content_of c.content })

abbrev pub seen : Slots → Cells
seen slots = map shown slots

abbrev pub slot_at : Slots → ℕ → Option Cell
slot_at slots k = slice_index_or slots k None

abbrev pub slot_count : Option Cell → ℕ
slot_count None = 0
slot_count (Some c) = c.count

abbrev pub slot_content : Option Cell → Option m.Content
slot_content None = None
slot_content (Some c) = Some (content_of c.content)

-- one reference fewer
abbrev pub lowered : Slots → ℕ → Option Cell → Slots
lowered slots k None = slots
lowered slots k (Some c) = cond (c.count == 0) slots (slice_set slots k (Some (record c { count = c.count - 1 })))

-- one reference more
abbrev pub raised : Slots → ℕ → Option Cell → Slots
raised slots k None = slots
raised slots k (Some c) = slice_set slots k (Some (record c { count = c.count + 1 }))
