use Rattle.std.proofs.Common.{◌≡◌, map, take}
use Rattle.kind_order.specs.Graph.{places_of_rows}
use Rattle.kind_order.specs.Named.{named_components}
use Rattle.kind_order.proofs.named.named_rows.Given as goal

abbrev pub invariant-loop-component : goal.invariant-loop-component
invariant-loop-component l = places_of_rows l.rows.items ≡ map (named_components l.components) (take l.component-index l.components)
