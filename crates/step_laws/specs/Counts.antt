-- How many nodes, ports, actors and posts there are in any world of a run, so that no number overflows.
use Rattle.std.specs.Prelude.{ℕ, suc, ◌≤◌, List, Option, Some, None, length, slice_get}
use Rattle.chan_values.specs.declared.event.Event.{Event}
use Rattle.chan_values.specs.declared.message.Message.{Message}
use Rattle.node_tree.specs.declared.node.Node.{Node}
use Rattle.world_meaning.specs.Channel.{Channel}
use Rattle.world_meaning.specs.Core.{Actor, Core, Moved, posts_of}
use Rattle.world_meaning.specs.Steps.{step}
use Rattle.channel_meaning.specs.World.{World, happens, opening}

pub record Within (steps : ℕ) (nodes : List Node) (ports : List (List Message)) (actors : List Actor) : Type 0 where
  pub few_nodes : length nodes ≤ 1048576
  pub few_ports : length ports ≤ 65536
  pub few_actors : length actors ≤ 4096
  -- no actor has made more posts than steps were made
  pub few_posts : (a : ℕ) → posts_of (slice_get actors a) ≤ steps

abbrev pub IsWithin : (steps : ℕ) → Core → Type 0
IsWithin n c = Within n c.nodes c.ports c.actors

abbrev pub IfWithin : (steps : ℕ) → Option Moved → Type 0
IfWithin n None = Unit {0}
IfWithin n (Some m) = IsWithin n m.core

-- of a world: and no more keys have come than events
pub record IsCounted (events : ℕ) (w : World) : Type 0 where
  pub within : IsWithin w.steps w.core
  pub few_keys : w.keys ≤ events

-- ---- the laws

abbrev pub OpeningCounts : Type 0
OpeningCounts = (ch : Channel) → IsCounted 0 (opening ch)

abbrev pub StepCounts : Type 0
StepCounts = (ch : Channel) (a n : ℕ) (c : Core) → IsWithin n c → IfWithin (suc n) (step ch a c)

abbrev pub EventCounts : Type 0
EventCounts = (ch : Channel) (bound events : ℕ) (e : Event) (w : World) → IsCounted events w → IsCounted (suc events) (happens ch bound e w)
