-- All laws of a run in one statement.
use Rattle.std.specs.Prelude.{◌≡◌, ℕ, ◌≤◌, suc, List, Some, length}
use Rattle.chan_values.specs.declared.event.Event.{Event}
use Rattle.node_tree.specs.Owned.{OnlyToRender}
use Rattle.trace_report.specs.declared.entry.EntryName.{EntryName}
use Rattle.world_meaning.specs.Channel.{Channel}
use Rattle.world_meaning.specs.IsChannel.{IsChannel}
use Rattle.world_meaning.specs.Core.{names, only}
use Rattle.world_meaning.specs.Steps.{step}
use Rattle.channel_meaning.specs.History.{Line}
use Rattle.channel_meaning.specs.Going.{GoesOn}
use Rattle.channel_meaning.specs.World.{World, run, opening}
use Rattle.channel_laws.specs.Laws.{Phase, Free, scan, talks, Laws}
use Rattle.channel_laws.specs.Rule.{queued_in}
use Rattle.step_laws.specs.Counts.{IsWithin}
use Rattle.step_laws.specs.Isolation.{IfLeaves}
use Rattle.owner_laws.specs.Owners.{Owners}
use Rattle.owner_laws.specs.Isolated.{IfLeavesOthers}
use Rattle.run_laws.specs.Moments.{Leads, IsPassed}

-- the posts of an actor that stand in the inbox: the one that was posted and has neither begun nor been dropped, if there is one
pub record HasWaiting (actor : ℕ) (trace : List Line) (inbox : List EntryName) : Type 0 where
  pub phase : Phase
  pub told : scan (talks actor) trace (Free 0) ≡ Some phase
  pub stands : only actor inbox ≡ queued_in phase

-- what holds of each world that a run passes
pub record LawsAt (ch : Channel) (w : World) : Type 0 where
  -- posts, drops, entries, deliveries and key walks
  pub history : Laws w.history
  pub waiting : (b : ℕ) → HasWaiting (suc b) w.history.trace (names w.core.inbox)
  -- each place names nodes of render or of the actor whose place it is
  pub owners : Owners w.core
  -- nodes, ports, actors and posts are no more than they may be
  pub within : IsWithin w.steps w.core
  -- what a step of another actor than 0 leaves in place, and which nodes it leaves
  pub other_steps : (b : ℕ) → IfLeaves w.core (step ch (suc b) w.core)
  pub other_nodes : (b : ℕ) → IfLeavesOthers (suc b) w.core (step ch (suc b) w.core)

-- what holds of each two worlds of which a run passes one before the other
pub record LawsBetween (w v : World) : Type 0 where
  -- nothing that was recorded is taken back
  pub goes_on : GoesOn w.history v.history
  -- the owner of a node changes only to render, and no node is taken away
  pub owners : OnlyToRender w.core.nodes v.core.nodes

-- of a run with this bound over these events, which comes to a last world
pub record LawsOfRun (ch : Channel) (bound : ℕ) (events : List Event) (last : World) : Type 0 where
  -- it comes there step by step, key by key and wait by wait
  pub comes : Leads ch bound (opening ch) last
  pub at : (w : World) → IsPassed ch bound last w → LawsAt ch w
  pub between : (w v : World) → IsPassed ch bound last w → Leads ch bound w v → Leads ch bound v last → LawsBetween w v
  pub few_steps : last.steps ≤ bound
  pub few_keys : last.keys ≤ length events

-- ---- the law

-- of every channel
abbrev pub EveryRunHasLaws : Type 0
EveryRunHasLaws = (ch : Channel) → IsChannel ch → (bound : ℕ) (events : List Event) → LawsOfRun ch bound events (run ch bound events)
