use Rattle.std.proofs.Common.{◌≡◌, ◌+◌, min, take}
use Rattle.field_types.specs.Plans.{elements_nodes, elements_of, too_many}
use Rattle.kind_plans.proofs.nodes.+nodes.Given as goal

abbrev pub invariant-with_children-loop-child : goal.invariant-with_children-loop-child
invariant-with_children-loop-child l = l.nodes ≡ min too_many (l.so_far + elements_nodes l.table (elements_of (take l.child-index l.children)))
