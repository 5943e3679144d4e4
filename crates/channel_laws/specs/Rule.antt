-- The rule that each step keeps. The laws of every run follow from it.
use Rattle.std.specs.Prelude.{◌≡◌, ℕ, suc, ◌+◌, ◌≤◌, Bool, true, false, ◌&&◌, List, [], ◌∷◌, ◌++◌, Option, Some, None, count_by, slice_get}
use Rattle.chan_values.specs.declared.event.Event.{Event}
use Rattle.field_observers.specs.declared.target.Registration.{Registration}
use Rattle.trace_report.specs.declared.entry.EntryName.{EntryName}
use Rattle.trace_report.specs.declared.entry.EntryName.TheVariants.{Post, Key}
use Rattle.brs_meaning.specs.Answering.{is_at_work}
use Rattle.world_meaning.specs.Channel.{Channel}
use Rattle.world_meaning.specs.Core as k
use Rattle.world_meaning.specs.Core.{names, only, Begun, Next, Answer, Another, EntryEnd, Agenda, Deliveries, Inits, Called, Actor, Core, Moved, posts_of}
use Rattle.world_meaning.specs.Steps.{step}
use Rattle.channel_meaning.specs.History.{Line, Change, Visit, Walk, History, record_all}
use Rattle.channel_meaning.specs.World.{World, happens, run, opening}
use Rattle.channel_laws.specs.Laws.{scan, Phase, Free, Waiting, Open, Gone, talks, DropsFollowStops, takes_turns, begins, dropped, among, without, Delivery, notified, begun_by, AllRefused, visited_nodes, IsWalk, IsOver, Laws}

-- ---- the posts of one actor

abbrev pub queued_in : Phase → List ℕ
queued_in (Waiting n) = n ∷ []
queued_in _ = []

abbrev pub open_in : Phase → List ℕ
open_in (Open n) = n ∷ []
open_in _ = []

abbrev pub count_in : Phase → ℕ
count_in (Free n) = n
count_in (Waiting n) = n
count_in (Open n) = n
count_in (Gone n) = n

-- the first number that was neither begun nor dropped
abbrev pub fresh : Phase → ℕ
fresh (Free n) = n + 1
fresh (Waiting n) = n
fresh (Open n) = n + 1
fresh (Gone n) = n + 1

abbrev pub IsFree : Phase → Type 0
IsFree (Free n) = Unit {0}
IsFree _ = ⊥

-- an actor that isn't there may start
abbrev pub working : Option Actor → Bool
working None = true
working (Some x) = x.live && is_at_work x.tree

-- an actor at work has no post in the inbox and none that has begun
pub record ActorIs (p : Phase) (o : Option Actor) : Type 0 where
  pub posts : posts_of o ≡ count_in p
  pub works : working o ≡ true → IsFree p

abbrev pub open_of : ℕ → Option EntryName → List ℕ
open_of a None = []
open_of a (Some n) = only a (n ∷ [])

-- what is so of one actor
pub record Talks (a : ℕ) (actors : List Actor) (inbox : List EntryName) (begun : Option EntryName) (trace : List Line) : Type 0 where
  pub phase : Phase
  pub told : scan (talks a) trace (Free 0) ≡ Some phase
  pub queue : only a inbox ≡ queued_in phase
  pub open_number : open_of a begun ≡ open_in phase
  pub is : ActorIs phase (slice_get actors a)
  pub new_begin : (i : ℕ) → fresh phase ≤ i → among (Post a i) (begins trace) ≡ false
  pub new_drop : (i : ℕ) → fresh phase ≤ i → among (Post a i) (dropped trace) ≡ false

-- ---- entries

abbrev pub name_of_begun : Option Begun → Option EntryName
name_of_begun None = None
name_of_begun (Some b) = Some b.name

pub record Entries (inbox : List EntryName) (begun : Option EntryName) (trace : List Line) (arrivals : List EntryName) : Type 0 where
  pub order : without (dropped trace) arrivals ≡ begins trace ++ inbox
  pub one : scan takes_turns trace None ≡ Some begun
  pub no_key : (i : ℕ) → among (Key i) (dropped trace) ≡ false
  pub drops : DropsFollowStops trace

-- ---- deliveries

-- deliveries that the end of an entry follows stand in no other place
abbrev pub IsLast : Next → List Agenda → Type 0
IsLast (Answer reply) later = Unit {0}
IsLast Another later = Unit {0}
IsLast EntryEnd later = later ≡ []

-- what was begun of a change, and what is left of it
pub record IsAhead (c : Change) (node : ℕ) (field : List ℕ) (left : List Registration) : Type 0 where
  pub rest : c.begun ++ left ≡ c.registrations
  pub of_node : c.node ≡ node
  pub of_field : c.field ≡ field

abbrev pub AllPast : List Change → Type 0
AllPast [] = Unit {0}
AllPast (c ∷ cs) = (c.begun ≡ c.registrations) × AllPast cs

abbrev pub AllUnanswered : List Change → Type 0
AllUnanswered [] = Unit {0}
AllUnanswered (c ∷ cs) = (c.answered ≡ false) × AllUnanswered cs

-- each of actor 0's deliveries are those of a change that isn't answered. Behind them stands at most a change that a task's last entry made,
-- all of whose deliveries were begun.
abbrev pub Zipped : List Agenda → List Change → Type 0
Zipped [] cs = AllPast cs
Zipped (Deliveries busy message left next ∷ later) [] = ⊥
Zipped (Deliveries busy message left next ∷ later) (c ∷ cs) = IsAhead c message.node message.field left × IsLast next later × Zipped later cs
Zipped (Inits busy left reply ∷ later) cs = Zipped later cs
Zipped (Called ∷ later) cs = Zipped later cs
Zipped (k.Visits key press at_work left ∷ later) cs = Zipped later cs

pub record AreDelivered (agendas : List Agenda) (answered unanswered : List Change) (trace : List Line) : Type 0 where
  pub zipped : Zipped agendas unanswered
  pub waiting : AllUnanswered unanswered
  pub all : AllPast answered
  pub count : (p : Delivery → Bool) → count_by p (notified trace) ≡ begun_by p answered + begun_by p unanswered

-- ---- key walks

-- where a walk is: with no handler at work, and these nodes left; or with that of a node, which is the last that was visited
abbrev pub IsAt : Option ℕ → List ℕ → Walk → Type 0
IsAt None left w = AllRefused w.visits × (visited_nodes w ++ left ≡ w.handlers)
IsAt (Some n) left w = (vs : List Visit) × (w.visits ≡ vs ++ record { node = n; taken = None } ∷ []) × AllRefused vs × (visited_nodes w ++ left ≡ w.handlers)

pub record IsDone (w : Walk) : Type 0 where
  pub walk : IsWalk w
  pub over : IsOver w

abbrev pub AllDone : List Walk → Type 0
AllDone [] = Unit {0}
AllDone (w ∷ ws) = IsDone w × AllDone ws

-- the visits that actor 0 has to do are those of the newest walk, which is that of the entry that has begun; all other walks are over
abbrev pub Walked : List Agenda → Option EntryName → List Walk → Type 0
Walked [] begun ws = AllDone ws
Walked (Deliveries busy message left next ∷ later) begun ws = Walked later begun ws
Walked (Inits busy left reply ∷ later) begun ws = Walked later begun ws
Walked (Called ∷ later) begun ws = Walked later begun ws
Walked (k.Visits key press at_work left ∷ later) begun [] = ⊥
Walked (k.Visits key press at_work left ∷ later) begun (w ∷ ws) = IsAt at_work left w × (begun ≡ Some (Key w.number)) × (later ≡ []) × AllDone ws

-- ---- all of it

pub record Holds (actors : List Actor) (inbox : List EntryName) (begun : Option EntryName) (agendas : List Agenda) (h : History) : Type 0 where
  pub actor : (b : ℕ) → Talks (suc b) actors inbox begun h.trace
  pub entries : Entries inbox begun h.trace h.arrivals
  pub deliveries : AreDelivered agendas h.answered h.unanswered h.trace
  pub walks : Walked agendas begun h.walks

abbrev pub Rule : Core → History → Type 0
Rule c h = Holds c.actors (names c.inbox) (name_of_begun c.begun) c.agendas h

-- what a step keeps, where there is one
abbrev pub IfMoved : Option Moved → History → Type 0
IfMoved None h = Unit {0}
IfMoved (Some m) h = Rule m.core (record_all m.labels h)

-- ---- the laws

abbrev pub EveryOpening : Type 0
EveryOpening = (ch : Channel) → Rule (opening ch).core (opening ch).history

abbrev pub EveryStepKeeps : Type 0
EveryStepKeeps = (ch : Channel) (a : ℕ) (c : Core) (h : History) → Rule c h → IfMoved (step ch a c) h

abbrev pub EveryEventKeeps : Type 0
EveryEventKeeps = (ch : Channel) (bound : ℕ) (e : Event) (w : World) → Rule w.core w.history → Rule (happens ch bound e w).core (happens ch bound e w).history

abbrev pub EveryRun : Type 0
EveryRun = (ch : Channel) (bound : ℕ) (events : List Event) → Laws (run ch bound events).history
