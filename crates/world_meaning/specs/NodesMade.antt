-- The nodes after a making, and how many there may be.
use Rattle.std.specs.Prelude.{ℕ, ◌+◌, List, length, Option, Some, None, nat_le, if◌then◌else◌}
use Rattle.field_types.specs.declared.plans.KindPlan.{KindPlan}
use Rattle.node_tree.specs.declared.node.Node.{Node}
use Rattle.node_tree.specs.Making.{made, made_count}

-- the most nodes of a run
abbrev pub most_nodes : ℕ
most_nodes = 1048576

-- the nodes with those of a making behind them, or None where there would be too many
abbrev pub nodes_made : List KindPlan → List Node → (kind owner : ℕ) → Option (List Node)
nodes_made plans nodes kind owner = if nat_le (length nodes + made_count plans kind) most_nodes then Some (made nodes plans kind owner) else None
