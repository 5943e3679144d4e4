-- The objects that are kept, in plain words, and the number of live cells.
use Rattle.std.specs.Prelude.{◌≡◌, ℕ, ◌+◌, ◌<◌, List, [], ◌∷◌, length, Option, Some, None, ◌⊎◌}
use Rattle.heap_meaning.specs.Store.{Store, Refers, Reclaimed}
use Rattle.heap_meaning.specs.Cells.{Content, Text, Array, Pairs, Message, HeldCell, Cells}

abbrev pub Among : ℕ → List ℕ → Type 0
Among n [] = ⊥
Among n (m ∷ ms) = (n ≡ m) ⊎ Among n ms

-- these objects were taken away, the last first: each when no root and no remaining object referred to it
abbrev pub Taken : Store → (ℕ → Type 0) → List ℕ → Type 0
Taken store root [] = Unit {0}
Taken store root (n ∷ before) = (root n → ⊥) × ((m : ℕ) → Refers store m n → Among m before) × Taken store root before

-- no remaining object can be taken away
abbrev pub IsAll : Store → (ℕ → Type 0) → List ℕ → Type 0
IsAll store root taken = (n : ℕ) → n < length store → (Among n taken → ⊥) → (root n → ⊥) → ((m : ℕ) → Refers store m n → Among m taken) → ⊥

-- the object is there and is not reclaimed
abbrev pub Kept : Store → (ℕ → Type 0) → ℕ → Type 0
Kept store root n = (n < length store) × (Reclaimed store root n → ⊥)

abbrev pub Distinct : List ℕ → Type 0
Distinct [] = Unit {0}
Distinct (n ∷ ns) = (Among n ns → ⊥) × Distinct ns

-- so many objects are kept
pub record KeptNumber (store : Store) (root : ℕ → Type 0) (number : ℕ) : Type 0 where
  pub objects : List ℕ
  pub distinct : Distinct objects
  pub only : (n : ℕ) → Among n objects → Kept store root n
  pub each : (n : ℕ) → Kept store root n → Among n objects
  pub number_is : length objects ≡ number

-- one for a cell that holds an array, an associative array or a message
abbrev pub object_count : Option HeldCell → ℕ
object_count None = 0
object_count (Some c) = counts c.content
  where
    counts : Content → ℕ
    counts (Text bytes) = 0
    counts (Array items) = 1
    counts (Pairs entries) = 1
    counts (Message message) = 1

abbrev pub live_cells : Cells → ℕ
live_cells [] = 0
live_cells (c ∷ cells) = object_count c + live_cells cells
