use Rattle.std.proofs.Common.{map, take}
use Rattle.folder_rules.specs.Kinds.{field}
use Rattle.field_faults.specs.Rows.{HasFieldsMore}
use Rattle.field_faults.proofs.rows.add_words.Given as goal

abbrev pub invariant-loop-word : goal.invariant-loop-word
invariant-loop-word l = HasFieldsMore l.initial.row l.row (map (λ word. field word.0.now word.1) (take l.word-index l.words))
