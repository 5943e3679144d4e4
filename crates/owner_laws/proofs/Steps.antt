-- Each step keeps the rule of owners.
use Rattle.std.proofs.Common.{◌≡◌, ℕ, zero, suc, Bool, true, false, List, [], ◌∷◌, Option, Some, None, refl, subst, length}
use Rattle.std.specs.Prelude.{filter, nat_lt}
use Rattle.chan_values.specs.declared.end_reason.EndReason.{EndReason}
use Rattle.chan_values.specs.declared.error_code.ErrorCode.TheVariants.{E11}
use Rattle.field_types.specs.Plans.{IsPlanTable}
use Rattle.trace_report.specs.declared.entry.EntryName.{EntryName}
use Rattle.trace_report.specs.declared.entry.EntryName.TheVariants as entry
use Rattle.message_ports.specs.Messages.{messages_of}
use Rattle.focus_keys.specs.Chain.{focus_chain}
use Rattle.node_tree.specs.Owned.{Of}
use Rattle.brs_meaning.specs.Running as t
use Rattle.brs_meaning.specs.Running.{Works, Waits}
use Rattle.brs_meaning.specs.Request.{Request, Asks, MakePort, Wait, Poll}
use Rattle.brs_meaning.specs.Reduction.{Outcome, Went, Asked, Printed, Raised, Returned, TooBig, Reduced, reduce}
use Rattle.brs_meaning.specs.Answering.{Reply, state, is_idle, want_home, want_place}
use Rattle.brs_meaning.specs.NodeLaws.{StepNames, AnswerNames, CallOnTopNames}
use Rattle.brs_meaning.specs.Nodes.{Each, IfSome, CallsName, RequestNames, OutcomeNames, ReducedNames}
use Rattle.world_meaning.specs.Channel.{Channel, handles_keys}
use Rattle.world_meaning.specs.Core as k
use Rattle.world_meaning.specs.Core.{Entry, KeyEntry, AccessEntry, LastEntry, name_of, Closing, Hands, GoesBack, Begun, Agenda, Deliveries, Inits, Called, Actor, Core, Moved, actor_at, with_agendas, home_of_node, tree_of_actor}
use Rattle.world_meaning.specs.Ending.{with_state, hand}
use Rattle.world_meaning.specs.Effect.{serve}
use Rattle.world_meaning.specs.Accesses.{effect}
use Rattle.world_meaning.specs.Asking.{most_ports, make_port}
use Rattle.world_meaning.specs.Entries.{give_to_render, last_of, set_state, begin_entry, closed, end_entry, at_inbox}
use Rattle.world_meaning.specs.Steps.{put_back, first_asks, first_shows, if_idle, first_waits, step_first, step_live, step_actor, step_running, step}
use Rattle.owner_laws.specs.Owners.{IsActorOwned, IsEntryOwned, IsAgendaOwned, IsClosingOwned, Owners, IfOwners, StepOwns}
use Rattle.owner_laws.proofs.Naming.{each_filter, reply_more}
use Rattle.owner_laws.proofs.Kin.{chain_owned}
use Rattle.owner_laws.proofs.Places.{of_render, step_owned, actor_change, with_jobs, with_inbox, with_begun}
use Rattle.owner_laws.proofs.Jobs.{with_state_owned, fail_first, fail_first_where, hand_owned, settle_owned, came_owned, too_large_owned, deliver_owned, init_owned, handler_owned}
use Rattle.owner_laws.proofs.Changes.{set_state_owned, last_task}
use Rattle.owner_laws.proofs.Accesses.{effect_owned, serve_owned, gift_owned, given_names}
use Rattle.owner_laws.proofs.Own.{take_owned, waiting_owned, new_port_owned, other_owned}

module _ (steps : StepNames) (answers : AnswerNames) (on_top : CallOnTopNames) (ch : Channel) (table : IsPlanTable ch.plans) where
  -- ---- what actor 0 shows

  first_port_owned : (room : Bool) (c : Core) → Owners c → Owners (make_port room 0 c).core
  first_port_owned true c r = new_port_owned answers 0 c r
  first_port_owned false c r = fail_first_where E11 (want_place (tree_of_actor (actor_at c 0))) c r

  first_asks_owned : (request : Request) (c : Core) → RequestNames (Of 0 c.nodes) request → Owners c → Owners (first_asks ch request c).core
  first_asks_owned (Asks access) c h r = serve_owned answers on_top (effect ch (want_home (tree_of_actor (actor_at c 0))) access c) (effect_owned on_top ch table (want_home (tree_of_actor (actor_at c 0))) access c h r)
  first_asks_owned MakePort c h r = first_port_owned (nat_lt (length c.ports) most_ports) c r
  first_asks_owned (Wait port limited) c h r = take_owned answers (messages_of c.ports port) port 0 c (waiting_owned answers port c r) r
  first_asks_owned (Poll port) c h r = take_owned answers (messages_of c.ports port) port 0 c (waiting_owned answers port c r) r

  first_shows_owned : (o : Outcome) (c : Core) → OutcomeNames (Of 0 c.nodes) o → Owners c → Owners (first_shows ch o c).core
  first_shows_owned Went c h r = r
  first_shows_owned (Printed text) c h r = r
  first_shows_owned (Asked request) c h r = first_asks_owned request c h r
  first_shows_owned (Raised e at) c h r = fail_first e at c r
  first_shows_owned (Returned v) c h r = came_owned answers v c h r
  first_shows_owned (TooBig at) c h r = too_large_owned answers at c r

  -- ---- entries

  begin_owned : (e : Entry) (c : Core) → IsEntryOwned c.nodes e → Owners c → Owners (begin_entry ch e c).core
  begin_owned (KeyEntry number button press) c h r =
      let handlers : List ℕ = filter (handles_keys ch c.nodes) (focus_chain c.nodes c.focus) in
      settle_owned answers (with_agendas (k.Visits button press None handlers ∷ c.agendas) c)
      (with_jobs c (k.Visits button press None handlers ∷ c.agendas) ((tt, each_filter (Of 0 c.nodes) (handles_keys ch c.nodes) (focus_chain c.nodes c.focus) (chain_owned c.nodes c.focus r.kin_and_fields r.focused)), r.jobs) r)
  begin_owned (AccessEntry a number access) c h r = serve_owned answers on_top (effect ch None access (give_to_render access c)) (effect_owned on_top ch table None access (give_to_render access c) (given_names a access c.nodes h) (gift_owned access c r))
  begin_owned (LastEntry a number returned) c h r = serve_owned answers on_top (set_state (last_of c.actors a) returned c) (set_state_owned (last_of c.actors a) returned c (last_task a c r) r)

  closed_owned : (name : EntryName) (closing : Closing) (c : Core) → IsClosingOwned c.nodes closing → Owners c → Owners (closed name closing c)
  closed_owned (entry.Post a i) (Hands reply) c h r = hand_owned answers a reply c (reply_more (Of 0 c.nodes) (Of a c.nodes) (of_render a c.nodes) reply h) r
  closed_owned (entry.Post a i) GoesBack c h r = r
  closed_owned (entry.Key i) (Hands reply) c h r = r
  closed_owned (entry.Key i) GoesBack c h r = r

  end_owned : (name : EntryName) (o : Option Closing) (c : Core) → IfSome (IsClosingOwned c.nodes) o → Owners c → IfOwners (end_entry name o c)
  end_owned name None c h r = tt
  end_owned name (Some closing) c h r = closed_owned name closing (record c { begun = None }) h (with_begun c None tt r)

  inbox_owned : (o : Option Begun) (inbox : List Entry) (c : Core) → IfSome (λ b. IfSome (IsClosingOwned c.nodes) b.closing) o → Each (IsEntryOwned c.nodes) inbox → Owners c → IfOwners (at_inbox ch o inbox c)
  inbox_owned (Some b) inbox c h es r = end_owned b.name b.closing c h r
  inbox_owned None [] c h es r = tt
  inbox_owned None (e ∷ rest) c h es r =
      let taken : Owners (record c { inbox = rest }) = with_inbox c rest es.1 r in
      begin_owned e (record c { inbox = rest; begun = Some (record { name = name_of e; closing = None }) }) es.0 (with_begun (record c { inbox = rest }) (Some (record { name = name_of e; closing = None })) tt taken)

  idle_owned : (idle : Bool) (c : Core) → Owners c → IfOwners (if_idle idle (at_inbox ch c.begun c.inbox c))
  idle_owned true c r = inbox_owned c.begun c.inbox c r.answer r.entries r
  idle_owned false c r = tt

  -- ---- jobs

  waits_owned : (idle : Bool) (G : List Agenda) (c : Core) → Each (IsAgendaOwned c.nodes) G → Owners c → IfOwners (first_waits ch idle G c)
  waits_owned idle [] c h r = idle_owned idle c r
  waits_owned idle (Deliveries true message left next ∷ later) c h r = tt
  waits_owned idle (Deliveries false message [] next ∷ later) c h r = tt
  waits_owned idle (Deliveries false message (x ∷ left) next ∷ later) c h r = deliver_owned answers on_top ch message x.target (with_agendas (Deliveries true message left next ∷ later) c) h.0.0 (with_jobs c (Deliveries true message left next ∷ later) h r)
  waits_owned idle (Inits true left reply ∷ later) c h r = tt
  waits_owned idle (Inits false [] reply ∷ later) c h r = tt
  waits_owned idle (Inits false (i ∷ left) reply ∷ later) c h r = init_owned answers on_top ch i (with_agendas (Inits true left reply ∷ later) c) (with_jobs c (Inits true left reply ∷ later) h r)
  waits_owned idle (Called ∷ later) c h r = tt
  waits_owned idle (k.Visits button press (Some m) left ∷ later) c h r = tt
  waits_owned idle (k.Visits button press None [] ∷ later) c h r = tt
  waits_owned idle (k.Visits button press None (m ∷ left) ∷ later) c h r =
      let G : List Agenda = k.Visits button press (Some m) left ∷ later in
      handler_owned answers on_top ch button press m (home_of_node (with_agendas G c) m) (with_agendas G c) (with_jobs c G ((h.0.1.0, h.0.1.1), h.1) r)

  first_owned : (x : Actor) (tree : t.Tree) (c : Core) → actor_at c 0 ≡ Some x → x.tree ≡ tree → Owners c → IfOwners (step_first ch x tree c)
  first_owned x (Works call spot tasks below) c e f r =
      let h : IsActorOwned c.nodes 0 x = subst (IfSome (IsActorOwned c.nodes 0)) e (r.actor 0) in
      let s : Reduced = reduce ch.program 0 x.homes (Works call spot tasks below) x.store in
      let names : ReducedNames (Of 0 c.nodes) s = step_owned 0 c.nodes steps ch.program x.homes (Works call spot tasks below) x.store r.global h.homes (subst (CallsName (Of 0 c.nodes)) f h.calls) h.store in
      first_shows_owned s.outcome (put_back 0 s c) names.0 (actor_change c 0 (with_state (state s.tree s.store)) (λ y g q. with_state_owned c 0 (state s.tree s.store) y (names.1, names.2) q) r)
  first_owned x (Waits below) c e f r = waits_owned (is_idle (Waits below)) c.agendas c r.jobs r

  -- ---- all steps

  live_owned : (live : Bool) (a : ℕ) (x : Actor) (c : Core) → actor_at c a ≡ Some x → Owners c → IfOwners (step_live live ch a x c)
  live_owned false a x c e r = tt
  live_owned true zero x c e r = first_owned x x.tree c e refl r
  live_owned true (suc b) x c e r = other_owned answers ch table steps b x x.tree c e refl r

  actor_owned : (a : ℕ) (o : Option Actor) (c : Core) → actor_at c a ≡ o → Owners c → IfOwners (step_actor ch a o c)
  actor_owned a None c e r = tt
  actor_owned a (Some x) c e r = live_owned x.live a x c e r

  running_owned : (o : Option EndReason) (a : ℕ) (c : Core) → Owners c → IfOwners (step_running o ch a c)
  running_owned (Some reason) a c r = tt
  running_owned None a c r = actor_owned a (actor_at c a) c refl r

pub steps_own : StepNames → AnswerNames → CallOnTopNames → StepOwns
steps_own steps answers on_top ch is a c r = running_owned steps answers on_top ch is.plans c.ending a c r
