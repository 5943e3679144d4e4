-- What the program's content of a cell is, as lists.
use Rattle.std.specs.Prelude.{map}
use Rattle.heap_meaning.specs.Values.{Value, Entry}
use Rattle.heap_meaning.specs.Cells.{Content, Text, Array, Pairs, Message}
use Rattle.brs_heap.specs.declared.cell.Content as c
use Rattle.brs_heap.specs.declared.cell.Content.TheVariants as v
use Rattle.brs_heap.specs.declared.cell.Entry as e

abbrev pub entry_of : e.Entry → Entry Value
entry_of x = record { key = x.key; value = x.value }

abbrev pub content_of : c.Content → Content
content_of (v.Text text) = Text text
content_of (v.Array items) = Array items.items
content_of (v.Pairs entries) = Pairs (map entry_of entries.items)
content_of (v.Message message) = Message message
