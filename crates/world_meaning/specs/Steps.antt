-- The one step that an actor makes, where it can make one.
use Rattle.std.specs.Prelude.{ℕ, zero, suc, Bool, true, false, List, [], ◌∷◌, Option, Some, None}
use Rattle.chan_values.specs.declared.end_reason.EndReason.{EndReason}
use Rattle.chan_values.specs.declared.message.Message.{Message}
use Rattle.message_ports.specs.Messages.{messages_of}
use Rattle.brs_meaning.specs.Running.{Tree, Works, Waits}
use Rattle.brs_meaning.specs.Request.{Request, Asks}
use Rattle.brs_meaning.specs.Reduction.{Outcome, Went, Asked, Printed, Raised, Returned, TooBig, Reduced, reduce}
use Rattle.brs_meaning.specs.Answering.{state, is_idle, want_home, next_wait}
use Rattle.world_meaning.specs.Channel.{Channel}
use Rattle.world_meaning.specs.Labels.{Prints}
use Rattle.world_meaning.specs.Core as k
use Rattle.world_meaning.specs.Core.{Agenda, Deliveries, Inits, Actor, Core, Moved, moved, actor_at, change_actor, with_agendas, tree_of_actor}
use Rattle.world_meaning.specs.Ending.{with_state, fail, leave}
use Rattle.world_meaning.specs.Agendas.{Came, TooLarge, finish, deliver, call_init, visit}
use Rattle.world_meaning.specs.Effect.{serve}
use Rattle.world_meaning.specs.Accesses.{effect}
use Rattle.world_meaning.specs.Asking.{ask, ask_port}
use Rattle.world_meaning.specs.Entries.{at_inbox}

-- the calls and the store of an actor after a step of its own
abbrev pub put_back : ℕ → Reduced → Core → Core
put_back a r c = change_actor a (with_state (state r.tree r.store)) c

-- ---- actor 0

-- an access is done at once
abbrev pub first_asks : Channel → Request → Core → Moved
first_asks ch (Asks access) c = serve (effect ch (want_home (tree_of_actor (actor_at c 0))) access c)
first_asks ch request c = ask_port 0 request c

abbrev pub first_shows : Channel → Outcome → Core → Moved
first_shows ch Went c = moved c []
first_shows ch (Printed text) c = moved c (Prints 0 text ∷ [])
first_shows ch (Asked request) c = first_asks ch request c
first_shows ch (Raised e at) c = fail 0 e at c
first_shows ch (Returned v) c = finish (Came v) c
first_shows ch (TooBig at) c = finish (TooLarge at) c

abbrev pub if_idle : Bool → Option Moved → Option Moved
if_idle true o = o
if_idle false o = None

-- a job that is left begins where none is at work; where nothing is left to do and actor 0 is idle, an entry ends or begins
abbrev pub first_waits : Channel → (idle : Bool) → List Agenda → Core → Option Moved
first_waits ch idle (Deliveries false message (r ∷ rest) next ∷ later) c = Some (deliver ch message r (with_agendas (Deliveries true message rest next ∷ later) c))
first_waits ch idle (Inits false (i ∷ rest) reply ∷ later) c = Some (call_init ch i (with_agendas (Inits true rest reply ∷ later) c))
first_waits ch idle (k.Visits key press None (n ∷ rest) ∷ later) c = Some (visit ch key press n (with_agendas (k.Visits key press (Some n) rest ∷ later) c))
first_waits ch idle (agenda ∷ later) c = None
first_waits ch idle [] c = if_idle idle (at_inbox ch c.begun c.inbox c)

abbrev pub step_first : Channel → Actor → Tree → Core → Option Moved
step_first ch x (Works call spot tasks below) c =
    let r = reduce ch.program 0 x.homes (Works call spot tasks below) x.store in
    Some (first_shows ch r.outcome (put_back 0 r c))
step_first ch x (Waits below) c = first_waits ch (is_idle (Waits below)) c.agendas c

-- ---- another actor

abbrev pub other_shows : Channel → ℕ → Outcome → Core → Moved
other_shows ch a Went c = moved c []
other_shows ch a (Printed text) c = moved c (Prints a text ∷ [])
other_shows ch a (Asked request) c = ask ch a request c
other_shows ch a (Raised e at) c = fail a e at c
other_shows ch a (Returned v) c = leave a c
other_shows ch a (TooBig at) c = leave a c

-- a wait on a port makes its step only where the port has a message
abbrev pub is_empty : List Message → Bool
is_empty [] = true
is_empty (m ∷ rest) = false

abbrev pub waits_at : Option (ℕ × Bool) → List (List Message) → Bool
waits_at None ports = false
waits_at (Some wait) ports = is_empty (messages_of ports wait.0)

abbrev pub waits : Channel → ℕ → Actor → Core → Bool
waits ch a x c = waits_at (next_wait ch.program a x.homes x.tree x.store) c.ports

abbrev pub unless : Bool → Moved → Option Moved
unless true m = None
unless false m = Some m

abbrev pub step_other : Channel → ℕ → Actor → Tree → Core → Option Moved
step_other ch a x (Works call spot tasks below) c =
    let r = reduce ch.program a x.homes (Works call spot tasks below) x.store in
    unless (waits ch a x c) (other_shows ch a r.outcome (put_back a r c))
step_other ch a x (Waits below) c = None

-- ---- all of them

abbrev pub step_live : Bool → Channel → ℕ → Actor → Core → Option Moved
step_live false ch a x c = None
step_live true ch zero x c = step_first ch x x.tree c
step_live true ch (suc b) x c = step_other ch (suc b) x x.tree c

abbrev pub step_actor : Channel → ℕ → Option Actor → Core → Option Moved
step_actor ch a None c = None
step_actor ch a (Some x) c = step_live x.live ch a x c

abbrev pub step_running : Option EndReason → Channel → ℕ → Core → Option Moved
step_running (Some reason) ch a c = None
step_running None ch a c = step_actor ch a (actor_at c a) c

abbrev pub step : Channel → ℕ → Core → Option Moved
step ch a c = step_running c.ending ch a c
