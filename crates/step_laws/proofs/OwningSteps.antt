-- An owner changes only to render: steps.
use Rattle.std.specs.Prelude.{filter, length, nat_lt, codes}
use Rattle.chan_values.specs.Tree.{Words, Tree, Leaf}
use Rattle.focus_keys.specs.Chain.{focus_chain}
use Rattle.brs_meaning.specs.Reduction.{Outcome, Went, Asked, Printed, Raised, Returned, TooBig, Reduced, reduce}
use Rattle.brs_meaning.specs.Answering.{Values, Reply, Value, Told, state, is_idle, want_place, want_home}
use Rattle.world_meaning.specs.Channel.{handles_keys, Channel, kind_named}
use Rattle.world_meaning.specs.Core.{Entry, KeyEntry, AccessEntry, LastEntry, name_of, Closing, Hands, GoesBack, Begun, Agenda, Deliveries, Inits, Called, Actor, Core, Moved, actor_at, with_agendas, posts_of, tree_of_actor, home_of_node}
use Rattle.world_meaning.specs.Changing.{set_of}
use Rattle.world_meaning.specs.Making.{below}
use Rattle.world_meaning.specs.Accesses.{nodes_of, effect}
use Rattle.std.proofs.Common.{◌≡◌, ℕ, zero, suc, ◌+◌, Bool, true, false, List, [], ◌∷◌, Option, Some, None, refl}
use Rattle.chan_values.specs.declared.end_reason.EndReason.{EndReason}
use Rattle.chan_values.specs.declared.error_code.ErrorCode.TheVariants.{E11}
use Rattle.chan_values.specs.declared.message.Message.{Message}
use Rattle.message_ports.specs.Messages.{messages_of, with_messages}
use Rattle.node_tree.specs.declared.node.Node.{Node}
use Rattle.node_tree.specs.declared.answers.SetResult.{SetResult}
use Rattle.node_tree.specs.declared.answers.SetResult.TheVariants.{NoField, NoFit, Same, Changed}
use Rattle.trace_report.specs.declared.entry.EntryName.{EntryName}
use Rattle.brs_grammar.specs.Form.{Text}
use Rattle.brs_meaning.specs.Running.{Works, Waits}
use Rattle.brs_meaning.specs.Request.{Access, Make, Scene, Get, Set, Has, Add, ObserveBy, ObserveAt, Unobserve, Append, Insert, Remove, Create, Child, Count, Parent, Find, Focus, HasFocus, InChain, Subtype, CallFunc, Request, Asks, MakePort, Wait, Poll}
use Rattle.world_meaning.specs.Ending.{with_state, handed, hand, ended, end_actor, fail_where, fail, leave, post_entry, post_last}
use Rattle.world_meaning.specs.Agendas.{Came, TooLarge, invalid, returned}
use Rattle.world_meaning.specs.Effect.{Result, Gives, Raises, Jobs, Calls}
use Rattle.world_meaning.specs.NodesMade.{nodes_made}
use Rattle.world_meaning.specs.Asking.{make_port, take_message, is_local, set_own_by, made_own, make_own, own_effect, answer_own, access_by, ask, most_ports}
use Rattle.world_meaning.specs.Entries.{give_to_render, last_of, set_state_by, set_state, begin_entry, closed, end_entry, at_inbox, state_word}
use Rattle.world_meaning.specs.Steps.{step, put_back, first_asks, first_shows, if_idle, first_waits, step_first, other_shows, waits, unless, step_other, step_live, step_actor, step_running}
use Rattle.step_laws.proofs.Actors.{posts_handed}
use Rattle.chan_values.specs.declared.error_code.ErrorCode.{ErrorCode}
use Rattle.chan_values.specs.declared.place.Place.{Place}
use Rattle.trace_report.specs.declared.entry.EntryName.TheVariants as entry
use Rattle.brs_meaning.specs.Running as t
use Rattle.world_meaning.specs.Core as k
use Rattle.step_laws.proofs.OwningPlaces.{IfSince, Since, actor_since, below_nodes, call_since, deliver_since, fail_since, finish_since, made_nodes, set_since, settle_since, visit_since}
use Rattle.step_laws.proofs.OwningAccesses.{effect_since, given_since, quiet_since, serve_since}
use Rattle.node_tree.specs.Owned.{OnlyToRender}

-- ---- actor 0

module _ (base : List Node) where
  pub hand_since : (a : ℕ) (reply : Reply) (c : Core) → Since base c → Since base (hand a reply c)
  hand_since a reply c w = actor_since base a (handed reply) c (posts_handed reply) w

  take_since : (m : List Message) (port a : ℕ) (c : Core) → Since base c → Since base (take_message m port a c).core
  take_since [] port a c w = hand_since a (Value invalid) c w
  take_since (m ∷ rest) port a c w = hand_since a (Told m) (record c { ports = with_messages c.ports port rest }) w

  new_port_since : (a : ℕ) (c : Core) → Since base c → Since base (make_port true a c).core
  new_port_since a c w = w

  first_port_since : (room : Bool) (c : Core) → Since base c → Since base (make_port room 0 c).core
  first_port_since true c w = new_port_since 0 c w
  first_port_since false c w = fail_since base (want_place (tree_of_actor (actor_at c 0))) E11 c w

  first_asks_since : (ch : Channel) (request : Request) (c : Core) → Since base c → Since base (first_asks ch request c).core
  first_asks_since ch (Asks access) c w = serve_since base (effect ch (want_home (tree_of_actor (actor_at c 0))) access c) (effect_since base ch (want_home (tree_of_actor (actor_at c 0))) access c w)
  first_asks_since ch MakePort c w = first_port_since (nat_lt (length c.ports) most_ports) c w
  first_asks_since ch (Wait port limited) c w = take_since (messages_of c.ports port) port 0 c w
  first_asks_since ch (Poll port) c w = take_since (messages_of c.ports port) port 0 c w

  first_shows_since : (ch : Channel) (o : Outcome) (c : Core) → Since base c → Since base (first_shows ch o c).core
  first_shows_since ch Went c w = w
  first_shows_since ch (Printed text) c w = w
  first_shows_since ch (Asked request) c w = first_asks_since ch request c w
  first_shows_since ch (Raised e at) c w = fail_since base (Some at) e c w
  first_shows_since ch (Returned v) c w = finish_since base (Came v) c w
  first_shows_since ch (TooBig at) c w = finish_since base (TooLarge at) c w

  state_since : (o : SetResult) (m : ℕ) (v : Tree) (c : Core) → Since base c → Since base (set_state_by o m v c).after.core
  state_since NoField m v c w = w
  state_since NoFit m v c w = w
  state_since Same m v c w = w
  state_since Changed m v c w = set_since base m (codes "state") v c w

  set_state_since : (o : Option ℕ) (returned : Bool) (c : Core) → Since base c → Since base (set_state o returned c).after.core
  set_state_since None returned c w = w
  set_state_since (Some m) returned c w = state_since (set_of c m (codes "state") (Leaf (Words (state_word returned)))) m (Leaf (Words (state_word returned))) c w

  begin_since : (ch : Channel) (e : Entry) (c : Core) → Since base c → Since base (begin_entry ch e c).core
  begin_since ch (KeyEntry number key press) c w = settle_since base (record c { agendas = k.Visits key press None (filter (handles_keys ch c.nodes) (focus_chain c.nodes c.focus)) ∷ c.agendas }) w
  begin_since ch (AccessEntry a number access) c w = serve_since base (effect ch None access (give_to_render access c)) (effect_since base ch None access (give_to_render access c) (given_since base (nodes_of access) c w))
  begin_since ch (LastEntry a number returned) c w = serve_since base (set_state (last_of c.actors a) returned c) (set_state_since (last_of c.actors a) returned c w)

  closed_since : (name : EntryName) (closing : Closing) (c : Core) → Since base c → Since base (closed name closing c)
  closed_since (entry.Post a i) (Hands reply) c w = hand_since a reply c w
  closed_since (entry.Post a i) GoesBack c w = w
  closed_since (entry.Key i) (Hands reply) c w = w
  closed_since (entry.Key i) GoesBack c w = w

  end_since : (name : EntryName) (o : Option Closing) (c : Core) → Since base c → IfSince base (end_entry name o c)
  end_since name None c w = tt
  end_since name (Some closing) c w = closed_since name closing (record c { begun = None }) w

  inbox_since : (ch : Channel) (o : Option Begun) (inbox : List Entry) (c : Core) → Since base c → IfSince base (at_inbox ch o inbox c)
  inbox_since ch (Some b) inbox c w = end_since b.name b.closing c w
  inbox_since ch None [] c w = tt
  inbox_since ch None (e ∷ rest) c w = begin_since ch e (record c { inbox = rest; begun = Some (record { name = name_of e; closing = None }) }) w

  idle_since : (ch : Channel) (idle : Bool) (c : Core) → Since base c → IfSince base (if_idle idle (at_inbox ch c.begun c.inbox c))
  idle_since ch true c w = inbox_since ch c.begun c.inbox c w
  idle_since ch false c w = tt

  waits_since : (ch : Channel) (idle : Bool) (G : List Agenda) (c : Core) → Since base c → IfSince base (first_waits ch idle G c)
  waits_since ch idle [] c w = idle_since ch idle c w
  waits_since ch idle (Deliveries true message left next ∷ later) c w = tt
  waits_since ch idle (Deliveries false message [] next ∷ later) c w = tt
  waits_since ch idle (Deliveries false message (x ∷ left) next ∷ later) c w = deliver_since base ch message x.target (with_agendas (Deliveries true message left next ∷ later) c) w
  waits_since ch idle (Inits true left reply ∷ later) c w = tt
  waits_since ch idle (Inits false [] reply ∷ later) c w = tt
  waits_since ch idle (Inits false (i ∷ left) reply ∷ later) c w = call_since base (ch.program.function i.function) i.home (Values []) (with_agendas (Inits true left reply ∷ later) c) w
  waits_since ch idle (Called ∷ later) c w = tt
  waits_since ch idle (k.Visits key press (Some m) left ∷ later) c w = tt
  waits_since ch idle (k.Visits key press None [] ∷ later) c w = tt
  waits_since ch idle (k.Visits key press None (m ∷ left) ∷ later) c w = visit_since base ch key press m (home_of_node (with_agendas (k.Visits key press (Some m) left ∷ later) c) m) (with_agendas (k.Visits key press (Some m) left ∷ later) c) w

  first_since : (ch : Channel) (x : Actor) (tree : t.Tree) (c : Core) → Since base c → IfSince base (step_first ch x tree c)
  first_since ch x (Works call spot tasks below) c w =
      let s : Reduced = reduce ch.program 0 x.homes (Works call spot tasks below) x.store in
      first_shows_since ch s.outcome (put_back 0 s c) (actor_since base 0 (with_state (state s.tree s.store)) c (λ y. refl) w)
  first_since ch x (Waits below) c w = waits_since ch (is_idle (Waits below)) c.agendas c w

-- ---- another actor

module _ (base : List Node) where
  post_since : (a number : ℕ) (e : Entry) (c : Core) → Since base c → Since base (post_entry a number e c).core
  post_since a number e c w = w

  over_since : (a : ℕ) (c : Core) → Since base c → Since base (end_actor a c)
  over_since a c w = actor_since base a ended c (λ x. refl) w

  last_since : (a : ℕ) (done : Bool) (c : Core) → Since base c → Since base (post_last a done (end_actor a c)).core
  last_since a done c w = post_since a (posts_of (actor_at (end_actor a c) a) + 1) (LastEntry a (posts_of (actor_at (end_actor a c) a) + 1) done) (end_actor a c) (over_since a c w)

  other_fails_since : (b : ℕ) (e : ErrorCode) (at : Place) (c : Core) → Since base c → Since base (fail (suc b) e at c).core
  other_fails_since zero e at c w = (over_since 1 c w)
  other_fails_since (suc b) e at c w = last_since (suc (suc b)) false c w

  fails_where_since : (b : ℕ) (e : ErrorCode) (o : Option Place) (c : Core) → Since base c → Since base (fail_where (suc b) e o c).core
  fails_where_since b e None c w = w
  fails_where_since b e (Some at) c w = other_fails_since b e at c w

  leave_since : (b : ℕ) (c : Core) → Since base c → Since base (leave (suc b) c).core
  leave_since zero c w = (over_since 1 c w)
  leave_since (suc b) c w = last_since (suc (suc b)) true c w

  port_since : (b : ℕ) (room : Bool) (c : Core) → Since base c → Since base (make_port room (suc b) c).core
  port_since b true c w = (new_port_since base (suc b) c w)
  port_since b false c w = fails_where_since b E11 (want_place (tree_of_actor (actor_at c (suc b)))) c w

  answer_own_since : (b : ℕ) (o : Result) (c : Core) → Since base c → Since base (answer_own (suc b) o c).core
  answer_own_since b (Gives v) c w = (hand_since base (suc b) (Value v) c w)
  answer_own_since b (Raises e) c w = fails_where_since b e (want_place (tree_of_actor (actor_at c (suc b)))) c w
  answer_own_since b Jobs c w = w
  answer_own_since b (Calls f home arguments) c w = w

  set_own_since : (o : SetResult) (m : ℕ) (f : Text) (v : Tree) (c : Core) → Since base c → Since base (set_own_by o m f v c).after.core
  set_own_since NoField m f v c w = w
  set_own_since NoFit m f v c w = w
  set_own_since Same m f v c w = w
  set_own_since Changed m f v c w = set_since base m f v c w

  made_own_since : (m : ℕ) (parent : Option ℕ) (o : Option (List Node)) (c : Core) → ((nodes : List Node) → o ≡ Some nodes → OnlyToRender base nodes) → Since base c → Since base (made_own m parent o c).after.core
  made_own_since m parent None c few w = w
  made_own_since m parent (Some nodes) c few w = below_nodes base parent nodes m (few nodes refl)

  make_own_since : (ch : Channel) (a : ℕ) (kind parent : Option ℕ) (c : Core) → Since base c → Since base (make_own ch a kind parent c).after.core
  make_own_since ch a None parent c w = w
  make_own_since ch a (Some kind) parent c w = made_own_since (length c.nodes + 1) parent (nodes_made ch.plans c.nodes kind a) c (λ nodes e. made_nodes base ch.plans c.nodes kind a nodes e w) w

  own_since : (ch : Channel) (a : ℕ) (access : Access) (c : Core) → Since base c → Since base (own_effect ch a access c).after.core
  own_since ch a (Make kind) c w = make_own_since ch a (kind_named ch kind) None c w
  own_since ch a (Create m kind) c w = make_own_since ch a (kind_named ch kind) (Some m) c w
  own_since ch a (Set m f v) c w = set_own_since (set_of c m f v) m f v c w
  own_since ch a (Scene kind) c w = quiet_since base (Scene kind) c w
  own_since ch a (Get m f) c w = quiet_since base (Get m f) c w
  own_since ch a (Has m f) c w = quiet_since base (Has m f) c w
  own_since ch a (Add m f kind always) c w = quiet_since base (Add m f kind always) c w
  own_since ch a (ObserveBy m f function) c w = quiet_since base (ObserveBy m f function) c w
  own_since ch a (ObserveAt m f port) c w = quiet_since base (ObserveAt m f port) c w
  own_since ch a (Unobserve m f) c w = quiet_since base (Unobserve m f) c w
  own_since ch a (Append m child) c w = quiet_since base (Append m child) c w
  own_since ch a (Insert m child at) c w = quiet_since base (Insert m child at) c w
  own_since ch a (Remove m child) c w = quiet_since base (Remove m child) c w
  own_since ch a (Child m at) c w = quiet_since base (Child m at) c w
  own_since ch a (Count m) c w = quiet_since base (Count m) c w
  own_since ch a (Parent m) c w = quiet_since base (Parent m) c w
  own_since ch a (Find m id) c w = quiet_since base (Find m id) c w
  own_since ch a (Focus m on) c w = quiet_since base (Focus m on) c w
  own_since ch a (HasFocus m) c w = quiet_since base (HasFocus m) c w
  own_since ch a (InChain m) c w = quiet_since base (InChain m) c w
  own_since ch a (Subtype m) c w = quiet_since base (Subtype m) c w
  own_since ch a (CallFunc m name arguments) c w = quiet_since base (CallFunc m name arguments) c w

  access_since : (local : Bool) (ch : Channel) (b : ℕ) (access : Access) (c : Core) → Since base c → Since base (access_by local ch (suc b) access c).core
  access_since true ch b access c w = answer_own_since b (own_effect ch (suc b) access c).result (own_effect ch (suc b) access c).after.core (own_since ch (suc b) access c w)
  access_since false ch b access c w = post_since (suc b) (posts_of (actor_at c (suc b)) + 1) (AccessEntry (suc b) (posts_of (actor_at c (suc b)) + 1) access) c w

  ask_since : (ch : Channel) (b : ℕ) (request : Request) (c : Core) → Since base c → Since base (ask ch (suc b) request c).core
  ask_since ch b (Asks access) c w = access_since (is_local (suc b) access c.nodes) ch b access c w
  ask_since ch b MakePort c w = port_since b (nat_lt (length c.ports) most_ports) c w
  ask_since ch b (Wait port limited) c w = (take_since base (messages_of c.ports port) port (suc b) c w)
  ask_since ch b (Poll port) c w = (take_since base (messages_of c.ports port) port (suc b) c w)

  other_shows_since : (ch : Channel) (b : ℕ) (o : Outcome) (c : Core) → Since base c → Since base (other_shows ch (suc b) o c).core
  other_shows_since ch b Went c w = w
  other_shows_since ch b (Printed text) c w = w
  other_shows_since ch b (Asked request) c w = ask_since ch b request c w
  other_shows_since ch b (Raised e at) c w = other_fails_since b e at c w
  other_shows_since ch b (Returned v) c w = leave_since b c w
  other_shows_since ch b (TooBig at) c w = leave_since b c w

  unless_since : (b : Bool) (m : Moved) → Since base m.core → IfSince base (unless b m)
  unless_since true m w = tt
  unless_since false m w = w

  other_since : (ch : Channel) (b : ℕ) (x : Actor) (tree : t.Tree) (c : Core) → Since base c → IfSince base (step_other ch (suc b) x tree c)
  other_since ch b x (Waits below) c w = tt
  other_since ch b x (Works call spot tasks below) c w =
      let s : Reduced = reduce ch.program (suc b) x.homes (Works call spot tasks below) x.store in
      unless_since (waits ch (suc b) x c) (other_shows ch (suc b) s.outcome (put_back (suc b) s c)) (other_shows_since ch b s.outcome (put_back (suc b) s c) (actor_since base (suc b) (with_state (state s.tree s.store)) c (λ y. refl) w))

  live_since : (live : Bool) (ch : Channel) (a : ℕ) (x : Actor) (c : Core) → Since base c → IfSince base (step_live live ch a x c)
  live_since false ch a x c w = tt
  live_since true ch zero x c w = (first_since base ch x x.tree c w)
  live_since true ch (suc b) x c w = other_since ch b x x.tree c w

  actor_step_since : (ch : Channel) (a : ℕ) (o : Option Actor) (c : Core) → Since base c → IfSince base (step_actor ch a o c)
  actor_step_since ch a None c w = tt
  actor_step_since ch a (Some x) c w = live_since x.live ch a x c w

  running_since : (o : Option EndReason) (ch : Channel) (a : ℕ) (c : Core) → Since base c → IfSince base (step_running o ch a c)
  running_since (Some reason) ch a c w = tt
  running_since None ch a c w = actor_step_since ch a (actor_at c a) c w

pub step_since : (base : List Node) (ch : Channel) (a : ℕ) (c : Core) → Since base c → IfSince base (step ch a c)
step_since base ch a c w = running_since base c.ending ch a c w
