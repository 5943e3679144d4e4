use Rattle.std.proofs.Common.{◌≡◌, ◌-◌, ◌++◌, length, Some}
use Rattle.std.specs.Prelude.{reverse}
use Rattle.node_tree.specs.Making.{lineage}
use Rattle.node_tree.proofs.making.lineage.Given as goal

abbrev pub invariant-loop : goal.invariant-loop
invariant-loop l = lineage (l.end - l.counter) l.plans l.next ++ reverse l.places.items ≡ lineage (length l.plans) l.plans (Some l.place)
