-- The world without its histories: all that a step reads and changes.
use Rattle.std.specs.Prelude.{ℕ, Bool, false, ◌==◌, List, [], ◌∷◌, ◌++◌, map, position, Option, Some, None, slice_get, if◌then◌else◌}
use Rattle.chan_values.specs.declared.end_reason.EndReason.{EndReason}
use Rattle.chan_values.specs.declared.key.Key.{Key}
use Rattle.chan_values.specs.declared.message.Message.{Message}
use Rattle.heap_meaning.specs.Store.{Store}
use Rattle.node_tree.specs.declared.node.Node.{Node}
use Rattle.node_tree.specs.Nodes.{changed}
use Rattle.field_observers.specs.declared.target.Registration.{Registration}
use Rattle.field_observers.specs.InTime.{Observer}
use Rattle.trace_report.specs.declared.entry.EntryName.{EntryName}
use Rattle.trace_report.specs.declared.entry.EntryName.TheVariants as entry
use Rattle.brs_meaning.specs.Locals.{Home}
use Rattle.brs_meaning.specs.Request.{Access}
use Rattle.brs_meaning.specs.Running.{Tree, Held, Waits, Works}
use Rattle.brs_meaning.specs.Answering.{Reply}
use Rattle.world_meaning.specs.Labels.{Label}

-- ---- the inbox

-- what waits in the inbox: a key; a posted access; the last entry of a task, which returned, or else raised an error
pub data Entry : Type 0 where
  KeyEntry : (number : ℕ) → Key → (press : Bool) → Entry
  AccessEntry : (actor number : ℕ) → Access → Entry
  LastEntry : (actor number : ℕ) → (returned : Bool) → Entry

abbrev pub name_of : Entry → EntryName
name_of (KeyEntry number key press) = entry.Key number
name_of (AccessEntry actor number access) = entry.Post actor number
name_of (LastEntry actor number returned) = entry.Post actor number

abbrev pub names : List Entry → List EntryName
names inbox = map name_of inbox

-- whether an entry is a post of an actor, and its number
abbrev pub is_post_of : ℕ → EntryName → Bool
is_post_of a (entry.Post b number) = b == a
is_post_of a (entry.Key number) = false

abbrev pub number_of : EntryName → ℕ
number_of (entry.Post a number) = number
number_of (entry.Key number) = number

-- the numbers of an actor's posts among entries
abbrev pub only : ℕ → List EntryName → List ℕ
only a [] = []
only a (n ∷ ns) = if is_post_of a n then number_of n ∷ only a ns else only a ns

-- the entries that are no posts of an actor
abbrev pub without_posts : ℕ → List Entry → List Entry
without_posts a [] = []
without_posts a (e ∷ es) = if is_post_of a (name_of e) then without_posts a es else e ∷ without_posts a es

-- what the end of an entry does: it hands an answer to the actor that waits for it, or ends the channel, since nobody took a press of back
pub data Closing : Type 0 where
  Hands : Reply → Closing
  GoesBack : Closing

-- the entry that has begun, and how it will close once all that it does is done
pub record Begun : Type 0 where
  pub name : EntryName
  pub closing : Option Closing

-- ---- what actor 0 has to do in the place of an access or of an entry

-- an `init` that is to be called: its function, and the home of its node
pub record Init : Type 0 where
  pub function : ℕ
  pub home : ℕ

-- what follows the last delivery of a change: the answer of the set; the deliveries of a change that was made with it; the end of a
-- task's last entry
pub data Next : Type 0 where
  Answer : Reply → Next
  Another : Next
  EntryEnd : Next

-- one place, innermost first in a list of them. Each has jobs that are left, and says whether one is at work.
pub data Agenda : Type 0 where
  -- the deliveries of a change
  Deliveries : (busy : Bool) → Message → (left : List Registration) → Next → Agenda
  -- `init` functions, and the answer that follows them
  Inits : (busy : Bool) → (left : List Init) → Reply → Agenda
  -- a function of an interface is at work, whose value is the answer
  Called : Agenda
  -- visits of a key: the node at whose handler it is, and the nodes that are left
  Visits : Key → (press : Bool) → (at_work : Option ℕ) → (left : List ℕ) → Agenda

-- ---- actors and the core

-- an actor: its calls, its store, its homes, how many posts it has made, whether it is started and hasn't ended, and the task node
-- that started it
pub record Actor : Type 0 where
  pub tree : Tree
  pub store : Store
  pub homes : List Home
  pub posts : ℕ
  pub live : Bool
  pub node : Option ℕ

pub record Core : Type 0 where
  pub nodes : List Node
  -- all registrations, in order of time
  pub observers : List Observer
  -- the messages of each port
  pub ports : List (List Message)
  -- the focused node
  pub focus : Option ℕ
  pub inbox : List Entry
  -- by number
  pub actors : List Actor
  -- the node of each home of actor 0, by the number of the home
  pub homes : List ℕ
  pub agendas : List Agenda
  pub begun : Option Begun
  pub ending : Option EndReason

-- ---- what happened

-- the core after a step or a part of one, and what happened in it
pub record Moved : Type 0 where
  pub core : Core
  pub labels : List Label

abbrev pub moved : Core → List Label → Moved
moved c labels = record { core = c; labels = labels }

-- one after the other
abbrev pub followed : Moved → (Core → Moved) → Moved
followed m f = record { core = (f m.core).core; labels = m.labels ++ (f m.core).labels }

-- ---- reads and changes

abbrev pub actor_at : Core → ℕ → Option Actor
actor_at c a = slice_get c.actors a

abbrev pub change_actor : ℕ → (Actor → Actor) → Core → Core
change_actor a f c = record c { actors = changed f c.actors a }

abbrev pub with_agendas : List Agenda → Core → Core
with_agendas agendas c = record c { agendas = agendas }

-- the home of a node in actor 0
abbrev pub home_of_node : Core → (node : ℕ) → Option ℕ
home_of_node c n = position (λ m. m == n) c.homes

abbrev pub posts_of : Option Actor → ℕ
posts_of None = 0
posts_of (Some x) = x.posts

abbrev pub tree_of_actor : Option Actor → Tree
tree_of_actor None = Waits []
tree_of_actor (Some x) = x.tree

abbrev pub store_of_actor : Option Actor → Store
store_of_actor None = []
store_of_actor (Some x) = x.store

abbrev pub homes_of_actor : Option Actor → List Home
homes_of_actor None = []
homes_of_actor (Some x) = x.homes

-- the calls of an actor that wait
abbrev pub waiting_calls : Tree → List Held
waiting_calls (Waits below) = below
waiting_calls (Works call spot tasks below) = []
