-- The world, what an event of a script does to it, and a run.
use Rattle.std.specs.Prelude.{ℕ, zero, suc, ◌+◌, Bool, true, false, List, [], ◌∷◌, ◌++◌, length, Option, Some, None, nat_lt, if◌then◌else◌}
use Rattle.chan_values.specs.declared.end_reason.EndReason.{EndReason}
use Rattle.chan_values.specs.declared.end_reason.EndReason.TheVariants as why
use Rattle.chan_values.specs.declared.event.Event.{Event}
use Rattle.chan_values.specs.declared.event.Event.TheVariants as event
use Rattle.chan_values.specs.declared.key.Key.{Key}
use Rattle.brs_meaning.specs.Reduction.{reduce}
use Rattle.brs_meaning.specs.Answering.{Value, next_wait, Start}
use Rattle.heap_meaning.specs.Values.{Reference}
use Rattle.heap_meaning.specs.Store.{MapObject}
use Rattle.message_ports.specs.Messages.{messages_of}
use Rattle.node_tree.specs.Making.{new_node}
use Rattle.brs_meaning.specs.Program.{Function}
use Rattle.brs_meaning.specs.Running.{Waits}
use Rattle.world_meaning.specs.Channel.{Channel, function_at, main_of}
use Rattle.world_meaning.specs.Labels.{Comes}
use Rattle.world_meaning.specs.Core.{KeyEntry, Actor, Core, Moved, actor_at}
use Rattle.world_meaning.specs.Ending.{end_run, hand}
use Rattle.world_meaning.specs.Agendas.{invalid}
use Rattle.world_meaning.specs.Control.{started}
use Rattle.world_meaning.specs.Steps.{step, put_back, is_empty}
use Rattle.channel_meaning.specs.History.{History, record_all, no_history}

-- No step reads the number of keys that have come, the number of steps made, or the history.
pub record World : Type 0 where
  pub core : Core
  pub keys : ℕ
  pub steps : ℕ
  pub history : History

-- ---- turns

-- one step, with what happened in it
abbrev pub stepped : Moved → World → World
stepped m w = record w { core = m.core; steps = w.steps + 1; history = record_all m.labels w.history }

abbrev pub out_of_steps : World → World
out_of_steps w = record w { core = end_run why.Steps w.core }

-- a step that can be made is made while the bound isn't used up, and else the run ends
abbrev pub turned : (within : Bool) → (World → World) → Moved → World → World
turned true more m w = more (stepped m w)
turned false more m w = out_of_steps w

abbrev pub turned_if : (bound : ℕ) → (World → World) → Option Moved → World → World
turned_if bound more None w = w
turned_if bound more (Some m) w = turned (nat_lt w.steps bound) more m w

-- up to so many steps of an actor, until it can make none
abbrev pub turn : Channel → (bound actor : ℕ) → (steps : ℕ) → World → World
turn ch bound a zero w = w
turn ch bound a (suc n) w = turned_if bound (turn ch bound a n) (step ch a w.core) w

-- a turn of each of so many actors, in ascending order from one on
abbrev pub turns_from : Channel → (bound : ℕ) → (steps : ℕ) → (actor : ℕ) → (count : ℕ) → World → World
turns_from ch bound n a zero w = w
turns_from ch bound n a (suc count) w = turns_from ch bound n (a + 1) count (turn ch bound a n w)

-- of each actor that is numbered when the round starts
abbrev pub round : Channel → (bound : ℕ) → (steps : ℕ) → World → World
round ch bound n w = turns_from ch bound n 0 (length w.core.actors) w

-- ---- keys

abbrev pub key_comes : Option EndReason → Key → (press : Bool) → World → World
key_comes (Some reason) key press w = w
key_comes None key press w =
    record w {
      core = record w.core { inbox = w.core.inbox ++ KeyEntry (w.keys + 1) key press ∷ [] };
      keys = w.keys + 1;
      history = record_all (Comes (w.keys + 1) ∷ []) w.history;
    }

-- ---- waits that expire

-- the wait becomes `invalid`, and that is no step
abbrev pub without_wait : Channel → ℕ → Actor → Core → Core
without_wait ch a x c = hand a (Value invalid) (put_back a (reduce ch.program a x.homes x.tree x.store) c)

-- the next step is a wait for a time above 0, and its port is empty
abbrev pub expire_at : Channel → ℕ → Actor → Option (ℕ × Bool) → Core → Core
expire_at ch a x None c = c
expire_at ch a x (Some wait) c = if wait.1 then (if is_empty (messages_of c.ports wait.0) then without_wait ch a x c else c) else c

abbrev pub expire_actor : Channel → ℕ → Option Actor → Core → Core
expire_actor ch zero o c = c
expire_actor ch (suc b) None c = c
expire_actor ch (suc b) (Some x) c = if x.live then expire_at ch (suc b) x (next_wait ch.program (suc b) x.homes x.tree x.store) c else c

abbrev pub expire_running : Option EndReason → Channel → ℕ → Core → Core
expire_running (Some reason) ch a c = c
expire_running None ch a c = expire_actor ch a (actor_at c a) c

abbrev pub expire : Channel → (actor : ℕ) → World → World
expire ch a w = record w { core = expire_running w.core.ending ch a w.core }

-- ---- events

abbrev pub happens : Channel → (bound : ℕ) → Event → World → World
happens ch bound (event.Key key press) w = key_comes w.core.ending key press w
happens ch bound (event.Turn actor n) w = turn ch bound actor n w
happens ch bound (event.Round n) w = round ch bound n w
happens ch bound (event.Expire actor) w = expire ch actor w

-- ---- the opening world

-- actor 0 is idle
abbrev pub first_actor : Actor
first_actor = record { tree = Waits []; store = []; homes = []; posts = 0; live = true; node = None }

-- actor 1 begins with a call of its function, which gets a new empty associative array where it has a parameter. Its one home has the
-- scope of the functions of `source`, and an `m` of its own.
abbrev pub main_actor : Channel → Option Function → Actor
main_actor ch None = record first_actor { live = false }
main_actor ch (Some f) = started f ch.source (Reference 0) (MapObject [] ∷ []) Start None

-- there is the global node, which is of the kind Node and render's
abbrev pub opening_core : Channel → Core
opening_core ch = record {
  nodes = new_node ch.plans 0 0 ∷ [];
  observers = [];
  ports = [];
  focus = None;
  inbox = [];
  actors = first_actor ∷ main_actor ch (function_at ch (main_of ch)) ∷ [];
  homes = [];
  agendas = [];
  begun = None;
  ending = None;
}

abbrev pub opening : Channel → World
opening ch = record { core = opening_core ch; keys = 0; steps = 0; history = no_history }

-- ---- runs

abbrev pub after : Channel → (bound : ℕ) → List Event → World → World
after ch bound [] w = w
after ch bound (e ∷ events) w = after ch bound events (happens ch bound e w)

-- the world after the events of a script, from the opening world
abbrev pub run : Channel → (bound : ℕ) → List Event → World
run ch bound events = after ch bound events (opening ch)
