use Rattle.std.proofs.Common.{◌≡◌, List, ℕ, map, take}
use Rattle.ordered_names.specs.Values.{value_in, value_of}
use Rattle.kind_tables.specs.Rows.{named_handler}
use Rattle.kind_tables.proofs.own.handlers.Given as goal

abbrev pub invariant-loop-field : goal.invariant-loop-field
invariant-loop-field l = (id : List ℕ) → value_in l.names id ≡ value_of (map named_handler (take l.field-index l.fields)) id
