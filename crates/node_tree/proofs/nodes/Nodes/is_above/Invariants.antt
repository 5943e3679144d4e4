use Rattle.std.proofs.Common.{◌≡◌, ◌-◌}
use Rattle.node_tree.specs.Family.{has, upward, ancestry}
use Rattle.node_tree.proofs.Upward.{IsNext}
use Rattle.node_tree.proofs.nodes.Nodes.is_above.Given as goal

abbrev pub invariant-loop : goal.invariant-loop
invariant-loop l = record { same : has l.above (upward (l.end - l.counter) l.self l.next) ≡ has l.above (ancestry l.self l.node); next : IsNext l.self l.next }
