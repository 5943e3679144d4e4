-- Marks by place on the cells at which a chain begins.
use Rattle.std.specs.Prelude.{◌≡◌, ℕ, List, Bool, false, IsTrue, ◌↔◌, Some, slice_get, slice_index_or}
use Rattle.heap_meaning.specs.Values.{Value, Direct, Cell}
use Rattle.heap_meaning.specs.Heap.{Heap, content_at}
use Rattle.heap_meaning.specs.Reading.{children_in}
use Rattle.copy_meaning.specs.Unfolding.{Chain}
use Rattle.copy_meaning.specs.Forms.{form_at}

-- the value's cell is marked
abbrev pub is_marked_in : List Bool → Value → Bool
is_marked_in marks (Direct plain) = false
is_marked_in marks (Cell place) = slice_index_or marks place false

-- an item of the cell at this place is marked
pub record HoldsMarked (h : Heap) (marks : List Bool) (place : ℕ) : Type 0 where
  pub index : ℕ
  pub item : Value
  pub there : slice_get (children_in (content_at h (Cell place))) index ≡ Some item
  pub marked : IsTrue (is_marked_in marks item)

-- the marked cells are those at which a chain of so many begins
abbrev pub Marks : Heap → ℕ → List Bool → Type 0
Marks h n marks = (place : ℕ) → IsTrue (slice_index_or marks place false) ↔ Chain (form_at h) n (Cell place)
