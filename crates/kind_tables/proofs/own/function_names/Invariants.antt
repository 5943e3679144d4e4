use Rattle.std.proofs.Common.{◌≡◌, List, ℕ, map, take}
use Rattle.ordered_names.specs.Values.{value_in, value_of}
use Rattle.kind_tables.specs.Rows.{placed_number}
use Rattle.kind_tables.proofs.own.function_names.Given as goal

abbrev pub invariant-loop-function : goal.invariant-loop-function
invariant-loop-function l = (name : List ℕ) → value_in l.names name ≡ value_of (map placed_number (take l.function-index l.functions)) name
