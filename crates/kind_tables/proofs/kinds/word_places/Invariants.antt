use Rattle.std.proofs.Common.{◌≡◌, List, ℕ, map, take}
use Rattle.folder_rules.specs.Names.{place_of}
use Rattle.ordered_names.specs.Values.{value_in}
use Rattle.kind_tables.proofs.kinds.word_places.Given as goal

abbrev pub invariant-loop-place : goal.invariant-loop-place
invariant-loop-place l = (name : List ℕ) → value_in l.names name ≡ place_of (map (λ word. word.now) (take l.place l.words)) name
