-- Marks of a search, and what waits to be looked at.
use Rattle.std.specs.Prelude.{◌≡◌, ◌⊎◌, ◌<◌, ◌+◌, ℕ, Bool, true, false, not, List, length, count_by, Contains}
use Rattle.std.specs.List.{slice_index_or}
use Rattle.component_cycles.specs.declared.graph.NamedKinds.{NamedKinds}
use Rattle.component_cycles.specs.Graph.{Leads}

abbrev pub IsMarked : List Bool → ℕ → Type 0
IsMarked marks place = slice_index_or marks place false ≡ true

abbrev pub unmarked : List Bool → ℕ
unmarked marks = count_by not marks

-- these places were marked, of those that are there, and what was newly marked waits
pub record Marks (places : List ℕ) (marks : List Bool) (waiting : List ℕ) (new_marks : List Bool) (new_waiting : List ℕ) : Type 0 where
  pub size : length new_marks ≡ length marks
  pub kept : (place : ℕ) → IsMarked marks place → IsMarked new_marks place
  pub all : (place : ℕ) → Contains places place → place < length marks → IsMarked new_marks place
  pub only : (place : ℕ) → IsMarked new_marks place → IsMarked marks place ⊎ Contains places place
  pub waits : (place : ℕ) → Contains waiting place → Contains new_waiting place
  pub newly : (place : ℕ) → IsMarked new_marks place → IsMarked marks place ⊎ Contains new_waiting place
  pub waits_marked : (place : ℕ) → Contains new_waiting place → Contains waiting place ⊎ IsMarked new_marks place
  pub left : unmarked new_marks + length new_waiting ≡ unmarked marks + length waiting

-- the marked places are those to which the start leads
pub record IsReached (graph : List NamedKinds) (start : ℕ) (marks : List Bool) : Type 0 where
  pub size : length marks ≡ length graph
  pub only : (place : ℕ) → IsMarked marks place → Leads graph start place
  pub all : (place : ℕ) → Leads graph start place → place < length graph → IsMarked marks place
