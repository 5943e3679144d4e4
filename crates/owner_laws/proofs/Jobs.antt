-- Answers, ends, agendas and calls on top keep the rule of owners.
use Rattle.std.proofs.Common.{◌≡◌, ℕ, zero, suc, ◌-◌, Bool, true, false, List, [], ◌∷◌, ◌++◌, Option, Some, None, refl, sym, ap, subst}
use Rattle.std.specs.Prelude.{slice_get, codes}
use Rattle.chan_values.specs.Folded.{folded}
use Rattle.chan_values.specs.declared.error_code.ErrorCode.{ErrorCode}
use Rattle.chan_values.specs.declared.error_code.ErrorCode.TheVariants.{E9}
use Rattle.chan_values.specs.declared.key.Key.{Key}
use Rattle.chan_values.specs.declared.key.Key.TheVariants as key
use Rattle.chan_values.specs.declared.message.Message.{Message}
use Rattle.chan_values.specs.declared.place.Place.{Place}
use Rattle.chan_values.specs.Tree.{Boolean, Words, Tree, Leaf}
use Rattle.heap_meaning.specs.Store.{Store}
use Rattle.field_observers.specs.declared.target.Target.{Target}
use Rattle.field_observers.specs.declared.target.Target.TheVariants as target
use Rattle.field_observers.specs.declared.target.Registration.{Registration}
use Rattle.message_ports.specs.Messages.{messages_of, with_messages}
use Rattle.focus_keys.specs.KeyText.{text_of}
use Rattle.node_tree.specs.Owned.{Of}
use Rattle.brs_meaning.specs.Program.{Function, scoped, heading}
use Rattle.brs_meaning.specs.Locals.{Home}
use Rattle.brs_meaning.specs.Running as t
use Rattle.brs_meaning.specs.Running.{Held, Works, Waits}
use Rattle.brs_meaning.specs.Reduction.{home_of}
use Rattle.brs_meaning.specs.Answering.{State, Reply, Value, Told, Failed, Arguments, Values, Message', Put, Done, Refused, put, want_place}
use Rattle.brs_meaning.specs.NodeLaws.{AnswerNames, CallOnTopNames}
use Rattle.brs_meaning.specs.Nodes.{Each, IfSome, TreeNames, MessageNames, StoreNames, HomesName, HeldNames, CallsName, StateNames, ReplyNames, ArgumentsName, PutNames}
use Rattle.world_meaning.specs.Channel.{Channel, function_at, function_of_node}
use Rattle.world_meaning.specs.Core as k
use Rattle.world_meaning.specs.Core.{Closing, Hands, GoesBack, Begun, Init, Next, Answer, Another, EntryEnd, Agenda, Deliveries, Inits, Called, Actor, Core, Moved, actor_at, change_actor, with_agendas, home_of_node, tree_of_actor, store_of_actor, homes_of_actor, waiting_calls}
use Rattle.world_meaning.specs.Ending.{with_state, handed_if, handed, hand, end_run, ended, end_actor, fail, fail_where, with_closing, close, is_idle_first, answered_at, answer, refused_at, refuse}
use Rattle.world_meaning.specs.Agendas.{invalid, yes, untaken, settled, settle, settle_with, Left, Came, TooLarge, returned, takes, visited, finished, finish, topped, call_on_top, deliver_to, deliver, call_init, call_handler, visit}
use Rattle.owner_laws.specs.Owners.{IsActorOwned, IsAgendaOwned, IsClosingOwned, Owners}
use Rattle.owner_laws.proofs.Naming.{each_append, each_index, each_set, reply_more}
use Rattle.owner_laws.proofs.Places.{of_render, reply_owned, put_owned, actor_change, with_jobs, with_ports, with_begun}

-- ---- an actor that isn't there holds nothing

pub first_store : (c : Core) → Owners c → StoreNames (Of 0 c.nodes) (store_of_actor (actor_at c 0))
first_store c r = go (actor_at c 0) (r.actor 0)
  where
    go : (o : Option Actor) → IfSome (IsActorOwned c.nodes 0) o → StoreNames (Of 0 c.nodes) (store_of_actor o)
    go None h = tt
    go (Some x) h = h.store

pub first_homes : (c : Core) → Owners c → HomesName (Of 0 c.nodes) (homes_of_actor (actor_at c 0))
first_homes c r = go (actor_at c 0) (r.actor 0)
  where
    go : (o : Option Actor) → IfSome (IsActorOwned c.nodes 0) o → HomesName (Of 0 c.nodes) (homes_of_actor o)
    go None h = tt
    go (Some x) h = h.homes

first_calls : (c : Core) → Owners c → Each (HeldNames (Of 0 c.nodes)) (waiting_calls (tree_of_actor (actor_at c 0)))
first_calls c r = go (actor_at c 0) (r.actor 0)
  where
    waiting : (tree : t.Tree) → CallsName (Of 0 c.nodes) tree → Each (HeldNames (Of 0 c.nodes)) (waiting_calls tree)
    waiting (Works call spot tasks below) h = tt
    waiting (Waits below) h = h

    go : (o : Option Actor) → IfSome (IsActorOwned c.nodes 0) o → Each (HeldNames (Of 0 c.nodes)) (waiting_calls (tree_of_actor o))
    go None h = tt
    go (Some x) h = waiting x.tree h.calls

-- ---- what needs no law of the actor

pub with_state_owned : (c : Core) (a : ℕ) (s : State) (x : Actor) → StateNames (Of a c.nodes) s → IsActorOwned c.nodes a x → IsActorOwned c.nodes a (with_state s x)
with_state_owned c a s x h k = record { calls = h.0; store = h.1; homes = k.homes; task = k.task }

pub ended_owned : (c : Core) (a : ℕ) → Owners c → Owners (end_actor a c)
ended_owned c a r = actor_change c a ended (λ x e h. record { calls = tt; store = h.store; homes = tt; task = h.task }) r

pub fail_first : (e : ErrorCode) (at : Place) (c : Core) → Owners c → Owners (fail 0 e at c).core
fail_first e at c r = ended_owned c 0 r

pub fail_first_where : (e : ErrorCode) (o : Option Place) (c : Core) → Owners c → Owners (fail_where 0 e o c).core
fail_first_where e None c r = r
fail_first_where e (Some at) c r = fail_first e at c r

closing_names : (c : Core) (closing : Closing) (o : Option Begun) → IsClosingOwned c.nodes closing → IfSome (λ b. IfSome (IsClosingOwned c.nodes) b.closing) (with_closing closing o)
closing_names c closing None h = tt
closing_names c closing (Some b) h = h

pub closes_owned : (closing : Closing) (c : Core) → IsClosingOwned c.nodes closing → Owners c → Owners (close closing c)
closes_owned closing c h r = with_begun c (with_closing closing c.begun) (closing_names c closing c.begun h) r

refused_owned : (idle : Bool) (e : ErrorCode) (at : Option Place) (c : Core) → Owners c → Owners (refused_at idle e at c).core
refused_owned true e at c r = closes_owned (Hands (Failed e)) c tt r
refused_owned false e at c r = fail_first_where e at c r

pub refuse_owned : (e : ErrorCode) (at : Option Place) (c : Core) → Owners c → Owners (refuse e at c).core
refuse_owned e at c r = refused_owned (is_idle_first c) e at c r

abbrev pub LeftNames : (ℕ → Type 0) → Left → Type 0
LeftNames S (Came v) = TreeNames S v
LeftNames S (TooLarge at) = Unit {0}

module _ (answers : AnswerNames) where
  -- ---- answers

  pub hand_owned : (a : ℕ) (reply : Reply) (c : Core) → ReplyNames (Of a c.nodes) reply → Owners c → Owners (hand a reply c)
  hand_owned a reply c h r = actor_change c a (handed reply) (λ x e k. by_live x k x.live) r
    where
      by_live : (x : Actor) → IsActorOwned c.nodes a x → (live : Bool) → IsActorOwned c.nodes a (handed_if live reply x)
      by_live x k true = with_state_owned c a _ x (reply_owned a c.nodes answers reply x.tree x.store h k.calls k.store) k
      by_live x k false = k

  answered_owned : (idle : Bool) (reply : Reply) (c : Core) → ReplyNames (Of 0 c.nodes) reply → Owners c → Owners (answered_at idle reply c)
  answered_owned true reply c h r = closes_owned (Hands reply) c h r
  answered_owned false reply c h r = hand_owned 0 reply c h r

  pub answer_owned : (reply : Reply) (c : Core) → ReplyNames (Of 0 c.nodes) reply → Owners c → Owners (answer reply c)
  answer_owned reply c h r = answered_owned (is_idle_first c) reply c h r

  -- ---- agendas

  untaken_owned : (c : Core) (button : Key) (press : Bool) → IsClosingOwned c.nodes (untaken button press)
  untaken_owned c key.Up press = tt
  untaken_owned c key.Down press = tt
  untaken_owned c key.Left press = tt
  untaken_owned c key.Right press = tt
  untaken_owned c key.Back true = tt
  untaken_owned c key.Back false = tt
  untaken_owned c key.Play press = tt
  untaken_owned c key.Ok press = tt
  untaken_owned c key.Rewind press = tt
  untaken_owned c key.FastForward press = tt
  untaken_owned c key.Replay press = tt
  untaken_owned c key.Options press = tt
  untaken_owned c (key.Literal character) press = tt

  pub settled_owned : (G : List Agenda) (c : Core) → Each (IsAgendaOwned c.nodes) G → Owners c → Owners (settled G c).core
  settled_owned [] c h r = r
  settled_owned (Deliveries true message left next ∷ later) c h r = r
  settled_owned (Deliveries false message (x ∷ left) next ∷ later) c h r = r
  settled_owned (Deliveries false message [] (Answer reply) ∷ later) c h r = answer_owned reply (with_agendas later c) h.0.1 (with_jobs c later h.1 r)
  settled_owned (Deliveries false message [] Another ∷ later) c h r = settled_owned later (with_agendas later c) h.1 (with_jobs c later h.1 r)
  settled_owned (Deliveries false message [] EntryEnd ∷ later) c h r = answer_owned (Value invalid) (with_agendas later c) tt (with_jobs c later h.1 r)
  settled_owned (Inits true left reply ∷ later) c h r = r
  settled_owned (Inits false (i ∷ left) reply ∷ later) c h r = r
  settled_owned (Inits false [] reply ∷ later) c h r = answer_owned reply (with_agendas later c) h.0 (with_jobs c later h.1 r)
  settled_owned (Called ∷ later) c h r = r
  settled_owned (k.Visits button press (Some m) left ∷ later) c h r = r
  settled_owned (k.Visits button press None (m ∷ left) ∷ later) c h r = r
  settled_owned (k.Visits button press None [] ∷ later) c h r = closes_owned (untaken button press) (with_agendas later c) (untaken_owned (with_agendas later c) button press) (with_jobs c later h.1 r)

  pub settle_owned : (c : Core) → Owners c → Owners (settle c).core
  settle_owned c r = settled_owned c.agendas c r.jobs r

  settle_with_owned : (G : List Agenda) (c : Core) → Each (IsAgendaOwned c.nodes) G → Owners c → Owners (settle_with G c).core
  settle_with_owned G c h r = settled_owned G (with_agendas G c) h (with_jobs c G h r)

  returned_owned : (v : Left) (c : Core) → LeftNames (Of 0 c.nodes) v → Owners c → Owners (returned v c).core
  returned_owned (Came v) c h r = answer_owned (Value v) c h r
  returned_owned (TooLarge at) c h r = refuse_owned E9 (Some at) c r

  visited_owned : (taken : Bool) (button : Key) (press : Bool) (n : ℕ) (left : List ℕ) (later : List Agenda) (c : Core) → Each (Of 0 c.nodes) left → Each (IsAgendaOwned c.nodes) later → Owners c → Owners (visited taken button press n left later c).core
  visited_owned true button press n left later c h rest r = closes_owned (Hands (Value yes)) (with_agendas later c) tt (with_jobs c later rest r)
  visited_owned false button press n left later c h rest r = settle_with_owned (k.Visits button press None left ∷ later) c ((tt, h), rest) r

  finished_owned : (v : Left) (G : List Agenda) (c : Core) → LeftNames (Of 0 c.nodes) v → Each (IsAgendaOwned c.nodes) G → Owners c → Owners (finished v G c).core
  finished_owned v [] c l h r = r
  finished_owned v (Deliveries busy message left next ∷ later) c l h r = settle_with_owned (Deliveries false message left next ∷ later) c h r
  finished_owned v (Inits busy left reply ∷ later) c l h r = settle_with_owned (Inits false left reply ∷ later) c h r
  finished_owned v (Called ∷ later) c l h r = returned_owned v (with_agendas later c) l (with_jobs c later h.1 r)
  finished_owned v (k.Visits button press (Some n) left ∷ later) c l h r = visited_owned (takes v) button press n left later c h.0.1 h.1 r
  finished_owned v (k.Visits button press None left ∷ later) c l h r = r

  pub came_owned : (v : Tree) (c : Core) → TreeNames (Of 0 c.nodes) v → Owners c → Owners (finish (Came v) c).core
  came_owned v c h r = finished_owned (Came v) c.agendas c h r.jobs r

  pub too_large_owned : (at : Place) (c : Core) → Owners c → Owners (finish (TooLarge at) c).core
  too_large_owned at c r = finished_owned (TooLarge at) c.agendas c tt r.jobs r

  -- ---- calls on top

  topped_owned : (f : Function) (p : Put) (c : Core) → PutNames (Of 0 c.nodes) p → Owners c → Owners (topped f p c).core
  topped_owned f (Done s) c h r = actor_change c 0 (with_state s) (λ x e k. with_state_owned c 0 s x h k) r
  topped_owned f (Refused e) c h r = fail_first e (heading f) c r

  module _ (on_top : CallOnTopNames) where
    pub call_owned : (o : Option Function) (home : ℕ) (arguments : Arguments) (c : Core) → ArgumentsName (Of 0 c.nodes) arguments → Owners c → Owners (call_on_top o home arguments c).core
    call_owned None home arguments c h r = came_owned invalid c tt r
    call_owned (Some f) home arguments c h r =
        topped_owned f (put f home (homes_of_actor (actor_at c 0)) arguments (waiting_calls (tree_of_actor (actor_at c 0))) (store_of_actor (actor_at c 0))) c
        (put_owned 0 c.nodes on_top f home (homes_of_actor (actor_at c 0)) arguments (waiting_calls (tree_of_actor (actor_at c 0))) (store_of_actor (actor_at c 0)) h (first_homes c r) (first_calls c r) (first_store c r)) r

    pub deliver_owned : (ch : Channel) (message : Message) (to : Target) (c : Core) → MessageNames (Of 0 c.nodes) message → Owners c → Owners (deliver_to ch message to c).core
    deliver_owned ch message (target.Function home name) c h r = call_owned (function_at ch (scoped ch.program (home_of (homes_of_actor (actor_at c 0)) home).scope (folded name))) home (Message' message) c h r
    deliver_owned ch message (target.Port port) c h r =
        let named : List Message → Type 0 = Each (MessageNames (Of 0 c.nodes)) in
        let ports : List (List Message) = with_messages c.ports port (messages_of c.ports port ++ message ∷ []) in
        came_owned invalid (record c { ports = ports }) tt
        (with_ports c ports (each_set named c.ports (port - 1) (messages_of c.ports port ++ message ∷ []) (each_append (MessageNames (Of 0 c.nodes)) (messages_of c.ports port) (message ∷ []) (each_index named c.ports (port - 1) [] tt r.messages) (h, tt)) r.messages) r)

    pub init_owned : (ch : Channel) (i : Init) (c : Core) → Owners c → Owners (call_init ch i c).core
    init_owned ch i c r = call_owned (ch.program.function i.function) i.home (Values []) c tt r

    pub handler_owned : (ch : Channel) (button : Key) (press : Bool) (n : ℕ) (home : Option ℕ) (c : Core) → Owners c → Owners (call_handler ch button press n home c).core
    handler_owned ch button press n None c r = came_owned invalid c tt r
    handler_owned ch button press n (Some home) c r = call_owned (function_at ch (function_of_node ch c.nodes n (codes "onkeyevent"))) home (Values (Leaf (Words (text_of button)) ∷ Leaf (Boolean press) ∷ [])) c (tt, (tt, tt)) r
