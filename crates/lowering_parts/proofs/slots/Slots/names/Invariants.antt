use Rattle.std.proofs.Common.{◌≡◌, map, take}
use Rattle.lowering_parts.proofs.slots.Slots.names.Given as goal

abbrev pub invariant-loop-name : goal.invariant-loop-name
invariant-loop-name l = l.names ≡ map (λ v. v.items) (take l.name-index l.keys)
