use Rattle.std.proofs.Common.{map, take}
use Rattle.folder_rules.specs.Kinds.{field}
use Rattle.field_faults.specs.Rows.{Each, IsOfWords}
use Rattle.field_faults.proofs.rows.rows_of.Given as goal

abbrev pub invariant-loop-row : goal.invariant-loop-row
invariant-loop-row l = Each IsOfWords l.rows.items (map (λ row. (row.0, map (λ word. field word.0.now word.1) row.1.now)) (take l.row-index l.table))
