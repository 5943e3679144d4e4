-- The places of kinds in a table of plans.
use Rattle.std.specs.Prelude.{◌≡◌, ℕ, ◌<◌, List, Option, Some, None}
use Rattle.folder_rules.specs.Names.{number_in, place_of}
use Rattle.folder_rules.specs.declared.names.NameTable.{NameTable}

-- a place, that of the kind Node where there is none
abbrev pub place_or_node : Option ℕ → ℕ
place_or_node None = 0
place_or_node (Some place) = place

-- The place of a kind among the kinds of these names, that of Node where it isn't there. Where each kind stands behind its base and the kinds of its child elements, it is there.
abbrev pub place_among : List (List ℕ) → List ℕ → ℕ
place_among names kind = place_or_node (place_of names kind)

-- each number of a table is below this one
abbrev pub AreBelow : ℕ → NameTable → Type 0
AreBelow limit table = (name : List ℕ) (place : ℕ) → number_in table name ≡ Some place → place < limit
