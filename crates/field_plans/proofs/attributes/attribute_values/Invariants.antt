use Rattle.std.proofs.Common.{◌≡◌, map, take}
use Rattle.std.specs.List.{flat_map}
use Rattle.field_plans.specs.Attributes.{given_by, given_of}
use Rattle.field_plans.proofs.attributes.attribute_values.Given as goal

abbrev pub invariant-loop-attribute : goal.invariant-loop-attribute
invariant-loop-attribute l = map given_of l.values ≡ flat_map (given_by l.table l.kind) (take l.attribute-index l.attributes)
