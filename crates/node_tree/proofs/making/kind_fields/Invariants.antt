use Rattle.std.proofs.Common.{◌≡◌, ◌++◌, vec_len}
use Rattle.std.specs.Prelude.{reverse}
use Rattle.std.specs.List.{flat_map}
use Rattle.node_tree.specs.Making.{own_fields, kind_fields}
use Rattle.node_tree.proofs.making.kind_fields.Given as goal

abbrev pub invariant-loop-here : goal.invariant-loop-here
invariant-loop-here l = l.fields ++ flat_map (own_fields l.plans) (reverse l.places.items) ≡ kind_fields l.plans l.place

abbrev pub decreases-loop-here : goal.decreases-loop-here
decreases-loop-here l = vec_len l.places
