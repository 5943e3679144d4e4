use Rattle.std.proofs.Common.{◌≡◌, ◌++◌, length}
use Rattle.node_tree.specs.Making.{children_given}
use Rattle.node_tree.specs.Pending.{works, gives, to_make}
use Rattle.node_tree.proofs.Works.{places_up}
use Rattle.node_tree.proofs.make.push_kind.Given as goal

abbrev pub invariant-loop-next : goal.invariant-loop-next
invariant-loop-next l = works l.parent (children_given (length l.plans) l.plans l.next) ++ to_make l.plans l.pending.items ≡ works l.parent (gives l.plans l.place) ++ to_make l.plans l.initial.pending.items

abbrev pub decreases-loop-next : goal.decreases-loop-next
decreases-loop-next l = places_up l.next
