use Rattle.std.proofs.Common.{◌≡◌, map, take}
use Rattle.field_plans.specs.Fields.{field_of, told_by}
use Rattle.field_plans.proofs.fields.told_fields.Given as goal

abbrev pub invariant-loop-word : goal.invariant-loop-word
invariant-loop-word l = map field_of l.fields ≡ map told_by (take l.word-index l.words)
