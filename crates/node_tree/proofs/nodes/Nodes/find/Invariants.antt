use Rattle.std.proofs.Common.{◌≡◌}
use Rattle.std.specs.Prelude.{find}
use Rattle.node_tree.specs.Search.{has_id, found}
use Rattle.node_tree.proofs.Visits.{to_come, total}
use Rattle.node_tree.proofs.nodes.Nodes.find.Given as goal

abbrev pub invariant-loop-next : goal.invariant-loop-next
invariant-loop-next l = find (has_id l.self l.id) (to_come l.self l.pending.items) ≡ found l.self l.node l.id

abbrev pub decreases-loop-next : goal.decreases-loop-next
decreases-loop-next l = total l.self l.pending.items
