-- Which nodes each place of a world may name: nodes of render, or of the actor whose place it is.
use Rattle.std.specs.Prelude.{◌≡◌, ℕ, List, Option, Some, None, slice_get}
use Rattle.chan_values.specs.declared.message.Message.{Message}
use Rattle.field_observers.specs.InTime.{Observer}
use Rattle.node_tree.specs.declared.node.Node.{Node}
use Rattle.node_tree.specs.Nodes.{owner_of}
use Rattle.node_tree.specs.Owned.{Of, AreNodesOwned}
use Rattle.brs_meaning.specs.Answering.{Reply}
use Rattle.brs_meaning.specs.Nodes.{Each, IfSome, MessageNames, StoreNames, HomesName, CallsName, AccessNames, ReplyNames}
use Rattle.world_meaning.specs.Channel.{Channel}
use Rattle.world_meaning.specs.IsChannel.{IsChannel}
use Rattle.world_meaning.specs.Core as k
use Rattle.world_meaning.specs.Core.{Entry, KeyEntry, AccessEntry, LastEntry, Closing, Hands, GoesBack, Begun, Next, Answer, Another, EntryEnd, Agenda, Deliveries, Inits, Called, Actor, Core, Moved}
use Rattle.world_meaning.specs.Steps.{step}
use Rattle.chan_values.specs.declared.event.Event.{Event}
use Rattle.channel_meaning.specs.World.{World, happens, opening}

-- ---- each place

-- what an actor holds: its calls, its store and its homes, and the task node that started it, which is render's
pub record IsActorOwned (nodes : List Node) (actor : ℕ) (x : Actor) : Type 0 where
  pub calls : CallsName (Of actor nodes) x.tree
  pub store : StoreNames (Of actor nodes) x.store
  pub homes : HomesName (Of actor nodes) x.homes
  pub task : IfSome (Of 0 nodes) x.node

-- what a posted access names is the poster's or render's
abbrev pub IsEntryOwned : List Node → Entry → Type 0
IsEntryOwned nodes (KeyEntry number key press) = Unit {0}
IsEntryOwned nodes (AccessEntry actor number access) = AccessNames (Of actor nodes) access
IsEntryOwned nodes (LastEntry actor number returned) = Unit {0}

-- what follows the last delivery of a change
abbrev pub IsNextOwned : List Node → Next → Type 0
IsNextOwned nodes (Answer reply) = ReplyNames (Of 0 nodes) reply
IsNextOwned nodes Another = Unit {0}
IsNextOwned nodes EntryEnd = Unit {0}

abbrev pub IsAgendaOwned : List Node → Agenda → Type 0
IsAgendaOwned nodes (Deliveries busy message left next) = MessageNames (Of 0 nodes) message × IsNextOwned nodes next
IsAgendaOwned nodes (Inits busy left reply) = ReplyNames (Of 0 nodes) reply
IsAgendaOwned nodes Called = Unit {0}
IsAgendaOwned nodes (k.Visits key press at_work left) = IfSome (Of 0 nodes) at_work × Each (Of 0 nodes) left

abbrev pub IsClosingOwned : List Node → Closing → Type 0
IsClosingOwned nodes (Hands reply) = ReplyNames (Of 0 nodes) reply
IsClosingOwned nodes GoesBack = Unit {0}

-- ---- all places

pub record Owned (nodes : List Node) (observers : List Observer) (ports : List (List Message)) (focus : Option ℕ) (inbox : List Entry) (actors : List Actor) (homes : List ℕ) (agendas : List Agenda) (begun : Option Begun) : Type 0 where
  -- a node has the owner of its parent and its children, and its fields name nodes of render or of its owner
  pub kin_and_fields : AreNodesOwned nodes
  -- the global node is render's
  pub global : owner_of nodes 1 ≡ Some 0
  pub registered : Each (λ o. Of 0 nodes o.node) observers
  pub messages : Each (Each (MessageNames (Of 0 nodes))) ports
  pub focused : IfSome (Of 0 nodes) focus
  pub entries : Each (IsEntryOwned nodes) inbox
  pub actor : (a : ℕ) → IfSome (IsActorOwned nodes a) (slice_get actors a)
  -- the nodes that have a home in actor 0
  pub at_home : Each (Of 0 nodes) homes
  pub jobs : Each (IsAgendaOwned nodes) agendas
  pub answer : IfSome (λ b. IfSome (IsClosingOwned nodes) b.closing) begun

abbrev pub Owners : Core → Type 0
Owners c = Owned c.nodes c.observers c.ports c.focus c.inbox c.actors c.homes c.agendas c.begun

-- ---- the laws

abbrev pub IfOwners : Option Moved → Type 0
IfOwners None = Unit {0}
IfOwners (Some m) = Owners m.core

abbrev pub OpeningOwns : Type 0
OpeningOwns = (ch : Channel) → IsChannel ch → Owners (opening ch).core

abbrev pub StepOwns : Type 0
StepOwns = (ch : Channel) → IsChannel ch → (a : ℕ) (c : Core) → Owners c → IfOwners (step ch a c)

abbrev pub EventOwns : Type 0
EventOwns = (ch : Channel) → IsChannel ch → (bound : ℕ) (e : Event) (w : World) → Owners w.core → Owners (happens ch bound e w).core
