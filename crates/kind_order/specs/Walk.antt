-- A walk over components: which of them are marked, those that are begun, and the order so far.
use Rattle.std.specs.Prelude.{◌≡◌, ◌<◌, ℕ, Bool, true, if◌then◌else◌, List, [], ◌∷◌, ◌++◌, Option, Some, None, map, slice_index_or, slice_set, length, Contains}
use Rattle.kind_order.specs.declared.walk.Visit.{Visit}
use Rattle.kind_order.specs.Order.{is_listed}

-- a component that is begun, with those that it names and that are not looked at yet
pub record Begun : Type 0 where
  pub place : ℕ
  pub left : List ℕ

abbrev pub begun : Visit → Begun
begun v = record { place = v.place; left = v.left.now }

-- a component of which all that it names is left
abbrev pub first_of : (ℕ → List ℕ) → ℕ → Begun
first_of named place = record { place = place; left = named place }

pub record Walk : Type 0 where
  pub marks : List Bool
  pub stack : List Begun
  pub order : List ℕ

abbrev pub walk_of : List Bool → List Visit → List ℕ → Walk
walk_of marks stack order = record { marks = marks; stack = map begun stack; order = order }

-- whether a place is marked; what is past the end counts as marked
abbrev pub is_marked : List Bool → ℕ → Bool
is_marked marks place = slice_index_or marks place true

-- the first that isn't marked, with those behind it
abbrev pub next_unmarked : List Bool → List ℕ → Option (ℕ × List ℕ)
next_unmarked marks [] = None
next_unmarked marks (place ∷ places) = if is_marked marks place then next_unmarked marks places else Some (place, places)

-- a walk with a component begun
abbrev pub begin : (ℕ → List ℕ) → ℕ → Walk → Walk
begin named place w = record { marks = slice_set w.marks place true; stack = w.stack ++ first_of named place ∷ []; order = w.order }

-- The next that a component names is begun, or the component is put behind the order.
abbrev pub go_on : (ℕ → List ℕ) → ℕ → Option (ℕ × List ℕ) → Walk → Walk
go_on named place None w = record { marks = w.marks; stack = w.stack; order = w.order ++ place ∷ [] }
go_on named place (Some next) w = begin named next.0 (record { marks = w.marks; stack = w.stack ++ record { place = place; left = next.1 } ∷ []; order = w.order })

-- exactly the places in the order are marked, of so many that there are
pub record AreMarked (count : ℕ) (marks : List Bool) (order : List ℕ) : Type 0 where
  pub size : length marks ≡ count
  pub inside : (place : ℕ) → Contains order place → place < count
  pub same : (place : ℕ) → place < count → is_marked marks place ≡ is_listed order place
