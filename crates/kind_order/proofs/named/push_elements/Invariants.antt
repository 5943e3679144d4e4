use Rattle.std.proofs.Common.{◌≡◌, ◌++◌, map, take}
use Rattle.std.specs.List.{filter_map}
use Rattle.chan_values.specs.Folded.{folded}
use Rattle.folder_rules.specs.Children.{own_tag}
use Rattle.kind_order.specs.Graph.{place_in}
use Rattle.kind_order.proofs.named.push_elements.Given as goal

abbrev pub invariant-loop-child : goal.invariant-loop-child
invariant-loop-child l = l.places.items ≡ l.initial.places.items ++ filter_map (place_in l.names) (map (λ child. folded (own_tag child.now).kind) (take l.child-index l.elements))
