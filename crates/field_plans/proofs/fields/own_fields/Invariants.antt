use Rattle.std.proofs.Common.{◌≡◌, map, take}
use Rattle.field_plans.specs.Fields.{field_of, own_fields}
use Rattle.field_plans.proofs.fields.own_fields.Given as goal

abbrev pub invariant-loop-element : goal.invariant-loop-element
invariant-loop-element l = map field_of l.fields ≡ own_fields (take l.element-index l.elements)
