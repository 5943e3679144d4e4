use Rattle.std.proofs.Common.{◌≡◌, List, ℕ, map, take}
use Rattle.ordered_names.specs.Values.{value_in, value_of}
use Rattle.kind_tables.specs.Rows.{interface_name}
use Rattle.kind_tables.proofs.own.interface_names.Given as goal

abbrev pub invariant-loop-function : goal.invariant-loop-function
invariant-loop-function l = (name : List ℕ) → value_in l.names name ≡ value_of (map (λ f. (interface_name f, tt {0})) (take l.function-index l.functions)) name
