-- Which nodes a step of another actor than 0 leaves as they are.
use Rattle.std.specs.Prelude.{◌≡◌, ◌≢◌, ℕ, suc, List, Option, Some, None}
use Rattle.node_tree.specs.declared.node.Node.{Node}
use Rattle.node_tree.specs.Nodes.{node_at}
use Rattle.node_tree.specs.Owned.{AreNodesOwned}
use Rattle.world_meaning.specs.Channel.{Channel}
use Rattle.world_meaning.specs.Core.{Core, Moved}
use Rattle.world_meaning.specs.Steps.{step}

-- each node that isn't the actor's own is as it was, with its fields, parent and children
abbrev pub LeavesOthers : ℕ → List Node → List Node → Type 0
LeavesOthers actor before after = (n : ℕ) (x : Node) → node_at before n ≡ Some x → x.owner ≢ actor → node_at after n ≡ Some x

abbrev pub IfLeavesOthers : ℕ → Core → Option Moved → Type 0
IfLeavesOthers actor c None = Unit {0}
IfLeavesOthers actor c (Some m) = LeavesOthers actor c.nodes m.core.nodes

abbrev pub OtherStepsLeaveNodes : Type 0
OtherStepsLeaveNodes = (ch : Channel) (b : ℕ) (c : Core) → AreNodesOwned c.nodes → IfLeavesOthers (suc b) c (step ch (suc b) c)
