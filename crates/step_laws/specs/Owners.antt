-- How owners of nodes change.
use Rattle.std.specs.Prelude.{ℕ, Option, Some, None}
use Rattle.chan_values.specs.declared.event.Event.{Event}
use Rattle.node_tree.specs.Owned.{OnlyToRender}
use Rattle.world_meaning.specs.Channel.{Channel}
use Rattle.world_meaning.specs.Core.{Core, Moved}
use Rattle.world_meaning.specs.Steps.{step}
use Rattle.channel_meaning.specs.World.{World, happens}

abbrev pub IfOwners : Core → Option Moved → Type 0
IfOwners c None = Unit {0}
IfOwners c (Some m) = OnlyToRender c.nodes m.core.nodes

abbrev pub StepOwners : Type 0
StepOwners = (ch : Channel) (a : ℕ) (c : Core) → IfOwners c (step ch a c)

abbrev pub EventOwners : Type 0
EventOwners = (ch : Channel) (bound : ℕ) (e : Event) (w : World) → OnlyToRender w.core.nodes (happens ch bound e w).core.nodes
