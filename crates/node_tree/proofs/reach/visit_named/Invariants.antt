use Rattle.std.proofs.Common.{take}
use Rattle.node_tree.specs.Reach.{named_by}
use Rattle.node_tree.specs.Visited.{is_open, IsVisited}
use Rattle.node_tree.proofs.reach.visit_named.Given as goal

abbrev pub invariant-loop-field : goal.invariant-loop-field
invariant-loop-field l = IsVisited (is_open l.nodes l.closed) l.initial.found.keys l.found.keys (named_by (take l.field-index l.fields))
