-- The text of an item of a `print`, by the cells of a heap.
use Rattle.std.specs.Prelude.{◌≡◌, ℕ, Bool, true, false, List, ◌++◌, Option, Some, None, codes}
use Rattle.chan_values.specs.Tree.{Tree}
use Rattle.heap_meaning.specs.Values.{Value, Direct, Cell}
use Rattle.heap_meaning.specs.Cells.{Content, Text, Message}
use Rattle.heap_meaning.specs.Heap.{Heap, content_at}
use Rattle.copy_meaning.specs.Answers.{answer_of}
use Rattle.copy_meaning.specs.Bounded.{tree_within}
use Rattle.copy_meaning.specs.Forms.{form_at}
use Rattle.brs_meaning.specs.Leaving.{copy_of}
use Rattle.brs_meaning.specs.Printing.{plain_item, tree_item}

-- the portable value of a value, or None where it is too deep or too large
unfoldable pub copied : Heap → Value → Option Tree
copied h v = copy_of (answer_of 65536 (tree_within (form_at h) 64 v))

-- of a cell that holds this, and unfolds to this
abbrev pub content_item : Option Content → Option Tree → Option (List ℕ)
content_item (Some (Text bytes)) copy = Some bytes
content_item (Some (Message message)) copy = Some (codes "message")
content_item _ copy = tree_item copy

abbrev pub item_at : Heap → Value → Option (List ℕ)
item_at h (Direct plain) = Some (plain_item plain)
item_at h (Cell place) = content_item (content_at h (Cell place)) (copied h (Cell place))

-- the text of an item was added, where it has one
abbrev pub Added : Option (List ℕ) → (old new : List ℕ) → (shown : Bool) → Type 0
Added (Some more) old new shown = (shown ≡ true) × (new ≡ old ++ more)
Added None old new shown = shown ≡ false
