use Rattle.std.proofs.Common.{◌≡◌, take, Some}
use Rattle.chan_values.specs.Tree.{trees}
use Rattle.field_types.specs.Conversion.{all_converted}
use Rattle.field_types.proofs.conversion.convert_each.Given as goal

abbrev pub invariant-loop-item : goal.invariant-loop-item
invariant-loop-item l = all_converted l.t (trees (take l.item-index l.items)) ≡ Some (trees l.fitted)
