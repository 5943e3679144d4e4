use Rattle.std.proofs.Common.{map, take}
use Rattle.folder_rules.specs.Names.{HasPlaces}
use Rattle.component_faults.proofs.names.table_of.Given as goal

abbrev pub invariant-loop-place : goal.invariant-loop-place
invariant-loop-place l = HasPlaces l.names (map (λ word. word.now) (take l.place l.words))
