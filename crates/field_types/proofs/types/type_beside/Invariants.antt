use Rattle.std.proofs.Common.{◌≡◌, length, map}
use Rattle.field_types.specs.Words.{type_beside}
use Rattle.field_types.proofs.types.type_beside.Given as goal

abbrev pub invariant-loop-rows : goal.invariant-loop-rows
invariant-loop-rows l = type_beside (map (λ row. (row.0.now, row.1)) l.rows) l.word ≡ type_beside (map (λ row. (row.0.now, row.1)) l.initial.rows) l.word

abbrev pub decreases-loop-rows : goal.decreases-loop-rows
decreases-loop-rows l = length l.rows
