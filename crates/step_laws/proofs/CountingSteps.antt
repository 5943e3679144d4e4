-- No step makes too many nodes, ports or actors, and none posts more than once.
use Rattle.std.specs.Prelude.{filter, ◌-◌, length, nat_lt, codes, ◌≤◌}
use Rattle.chan_values.specs.Tree.{Words, PortNumber, Tree, Leaf}
use Rattle.focus_keys.specs.Chain.{focus_chain}
use Rattle.brs_meaning.specs.Reduction.{Outcome, Went, Asked, Printed, Raised, Returned, TooBig, Reduced, reduce}
use Rattle.brs_meaning.specs.Answering.{Values, Reply, Value, Told, state, is_idle, want_place, want_home}
use Rattle.world_meaning.specs.Channel.{handles_keys, Channel, kind_named}
use Rattle.world_meaning.specs.Core.{Entry, KeyEntry, AccessEntry, LastEntry, name_of, Closing, Hands, GoesBack, Begun, Agenda, Deliveries, Inits, Called, Actor, Core, Moved, actor_at, with_agendas, posts_of, tree_of_actor, home_of_node}
use Rattle.world_meaning.specs.Changing.{set_of}
use Rattle.world_meaning.specs.Making.{below}
use Rattle.world_meaning.specs.Accesses.{nodes_of, effect}
use Rattle.std.proofs.Common.{◌≡◌, ℕ, zero, suc, ◌+◌, Bool, true, false, List, [], ◌∷◌, ◌++◌, Option, Some, None, refl, sym, subst, arith}
use Rattle.chan_values.specs.declared.end_reason.EndReason.{EndReason}
use Rattle.chan_values.specs.declared.error_code.ErrorCode.TheVariants.{E11}
use Rattle.chan_values.specs.declared.message.Message.{Message}
use Rattle.message_ports.specs.Messages.{messages_of, with_messages}
use Rattle.node_tree.specs.declared.node.Node.{Node}
use Rattle.node_tree.specs.declared.answers.SetResult.{SetResult}
use Rattle.node_tree.specs.declared.answers.SetResult.TheVariants.{NoField, NoFit, Same, Changed}
use Rattle.trace_report.specs.declared.entry.EntryName.{EntryName}
use Rattle.brs_grammar.specs.Form.{Text}
use Rattle.brs_meaning.specs.Running.{Works, Waits}
use Rattle.brs_meaning.specs.Request.{Access, Make, Scene, Get, Set, Has, Add, ObserveBy, ObserveAt, Unobserve, Append, Insert, Remove, Create, Child, Count, Parent, Find, Focus, HasFocus, InChain, Subtype, CallFunc, Request, Asks, MakePort, Wait, Poll}
use Rattle.world_meaning.specs.Ending.{with_state, handed, hand, ended, end_actor, with_post, fail_where, fail, leave, post_entry, post_last}
use Rattle.world_meaning.specs.Agendas.{Came, TooLarge, invalid, returned}
use Rattle.world_meaning.specs.Effect.{Result, Gives, Raises, Jobs, Calls}
use Rattle.world_meaning.specs.NodesMade.{nodes_made}
use Rattle.world_meaning.specs.Asking.{make_port, take_message, is_local, set_own_by, made_own, make_own, own_effect, answer_own, access_by, ask, most_ports}
use Rattle.world_meaning.specs.Entries.{give_to_render, last_of, set_state_by, set_state, begin_entry, closed, end_entry, at_inbox, state_word}
use Rattle.world_meaning.specs.Steps.{put_back, first_asks, first_shows, if_idle, first_waits, step_first, other_shows, waits, unless, step_other, step_live, step_actor, step_running}
use Rattle.std.proofs.lemmas.Bool.{ltb-true}
use Rattle.std.proofs.lemmas.List.{length-append}
use Rattle.node_tree.proofs.Places.{length_changed}
use Rattle.step_laws.specs.Counts.{Within, IsWithin, IfWithin, StepCounts}
use Rattle.step_laws.proofs.Actors.{at_changed}
use Rattle.step_laws.proofs.Actors.{posts_handed}
use Rattle.chan_values.specs.declared.error_code.ErrorCode.{ErrorCode}
use Rattle.chan_values.specs.declared.place.Place.{Place}
use Rattle.step_laws.proofs.CountingPlaces.{few_made, few_below, with_nodes, with_ports, set_within, actor_within, fail_within, settle_within, finish_within, call_within, deliver_within, visit_within}
use Rattle.step_laws.proofs.CountingAccesses.{serve_within, quiet_within, effect_within, given_within}
use Rattle.trace_report.specs.declared.entry.EntryName.TheVariants as entry
use Rattle.brs_meaning.specs.Running as t
use Rattle.world_meaning.specs.Core as k

-- ---- actor 0

module _ (n : ℕ) where
  pub hand_within : (a : ℕ) (reply : Reply) (c : Core) → IsWithin n c → IsWithin n (hand a reply c)
  hand_within a reply c w = actor_within n a (handed reply) c (posts_handed reply) w

  take_within : (m : List Message) (port a : ℕ) (c : Core) → IsWithin n c → IsWithin n (take_message m port a c).core
  take_within [] port a c w = hand_within a (Value invalid) c w
  take_within (m ∷ rest) port a c w = hand_within a (Told m) (record c { ports = with_messages c.ports port rest }) (with_ports n c port rest w)

  new_port_within : (a : ℕ) (c : Core) → nat_lt (length c.ports) most_ports ≡ true → IsWithin n c → IsWithin n (make_port true a c).core
  new_port_within a c room w = hand_within a (Value (Leaf (PortNumber (length c.ports + 1)))) (record c { ports = c.ports ++ [] ∷ [] }) (record {
    few_nodes = w.few_nodes;
    few_ports = let e = length-append c.ports ([] ∷ []) in let b = ltb-true (length c.ports) 65536 room in omega (arith, e, b);
    few_actors = w.few_actors;
    few_posts = w.few_posts;
  })

  first_port_within : (room : Bool) (c : Core) → nat_lt (length c.ports) most_ports ≡ room → IsWithin n c → IsWithin n (make_port room 0 c).core
  first_port_within true c e w = new_port_within 0 c e w
  first_port_within false c e w = fail_within n (want_place (tree_of_actor (actor_at c 0))) E11 c w

  first_asks_within : (ch : Channel) (request : Request) (c : Core) → IsWithin n c → IsWithin n (first_asks ch request c).core
  first_asks_within ch (Asks access) c w = serve_within n (effect ch (want_home (tree_of_actor (actor_at c 0))) access c) (effect_within n ch (want_home (tree_of_actor (actor_at c 0))) access c w)
  first_asks_within ch MakePort c w = first_port_within (nat_lt (length c.ports) most_ports) c refl w
  first_asks_within ch (Wait port limited) c w = take_within (messages_of c.ports port) port 0 c w
  first_asks_within ch (Poll port) c w = take_within (messages_of c.ports port) port 0 c w

  first_shows_within : (ch : Channel) (o : Outcome) (c : Core) → IsWithin n c → IsWithin n (first_shows ch o c).core
  first_shows_within ch Went c w = w
  first_shows_within ch (Printed text) c w = w
  first_shows_within ch (Asked request) c w = first_asks_within ch request c w
  first_shows_within ch (Raised e at) c w = fail_within n (Some at) e c w
  first_shows_within ch (Returned v) c w = finish_within n (Came v) c w
  first_shows_within ch (TooBig at) c w = finish_within n (TooLarge at) c w

  state_within : (o : SetResult) (m : ℕ) (v : Tree) (c : Core) → IsWithin n c → IsWithin n (set_state_by o m v c).after.core
  state_within NoField m v c w = w
  state_within NoFit m v c w = w
  state_within Same m v c w = w
  state_within Changed m v c w = set_within n m (codes "state") v c w

  set_state_within : (o : Option ℕ) (returned : Bool) (c : Core) → IsWithin n c → IsWithin n (set_state o returned c).after.core
  set_state_within None returned c w = w
  set_state_within (Some m) returned c w = state_within (set_of c m (codes "state") (Leaf (Words (state_word returned)))) m (Leaf (Words (state_word returned))) c w

  begin_within : (ch : Channel) (e : Entry) (c : Core) → IsWithin n c → IsWithin n (begin_entry ch e c).core
  begin_within ch (KeyEntry number key press) c w = settle_within n (record c { agendas = k.Visits key press None (filter (handles_keys ch c.nodes) (focus_chain c.nodes c.focus)) ∷ c.agendas }) w
  begin_within ch (AccessEntry a number access) c w = serve_within n (effect ch None access (give_to_render access c)) (effect_within n ch None access (give_to_render access c) (given_within n (nodes_of access) c w))
  begin_within ch (LastEntry a number returned) c w = serve_within n (set_state (last_of c.actors a) returned c) (set_state_within (last_of c.actors a) returned c w)

  closed_within : (name : EntryName) (closing : Closing) (c : Core) → IsWithin n c → IsWithin n (closed name closing c)
  closed_within (entry.Post a i) (Hands reply) c w = hand_within a reply c w
  closed_within (entry.Post a i) GoesBack c w = w
  closed_within (entry.Key i) (Hands reply) c w = w
  closed_within (entry.Key i) GoesBack c w = w

  end_within : (name : EntryName) (o : Option Closing) (c : Core) → IsWithin n c → IfWithin n (end_entry name o c)
  end_within name None c w = tt
  end_within name (Some closing) c w = closed_within name closing (record c { begun = None }) w

  inbox_within : (ch : Channel) (o : Option Begun) (inbox : List Entry) (c : Core) → IsWithin n c → IfWithin n (at_inbox ch o inbox c)
  inbox_within ch (Some b) inbox c w = end_within b.name b.closing c w
  inbox_within ch None [] c w = tt
  inbox_within ch None (e ∷ rest) c w = begin_within ch e (record c { inbox = rest; begun = Some (record { name = name_of e; closing = None }) }) w

  idle_within : (ch : Channel) (idle : Bool) (c : Core) → IsWithin n c → IfWithin n (if_idle idle (at_inbox ch c.begun c.inbox c))
  idle_within ch true c w = inbox_within ch c.begun c.inbox c w
  idle_within ch false c w = tt

  waits_within : (ch : Channel) (idle : Bool) (G : List Agenda) (c : Core) → IsWithin n c → IfWithin n (first_waits ch idle G c)
  waits_within ch idle [] c w = idle_within ch idle c w
  waits_within ch idle (Deliveries true message left next ∷ later) c w = tt
  waits_within ch idle (Deliveries false message [] next ∷ later) c w = tt
  waits_within ch idle (Deliveries false message (x ∷ left) next ∷ later) c w = deliver_within n ch message x.target (with_agendas (Deliveries true message left next ∷ later) c) w
  waits_within ch idle (Inits true left reply ∷ later) c w = tt
  waits_within ch idle (Inits false [] reply ∷ later) c w = tt
  waits_within ch idle (Inits false (i ∷ left) reply ∷ later) c w = call_within n (ch.program.function i.function) i.home (Values []) (with_agendas (Inits true left reply ∷ later) c) w
  waits_within ch idle (Called ∷ later) c w = tt
  waits_within ch idle (k.Visits key press (Some m) left ∷ later) c w = tt
  waits_within ch idle (k.Visits key press None [] ∷ later) c w = tt
  waits_within ch idle (k.Visits key press None (m ∷ left) ∷ later) c w = visit_within n ch key press m (home_of_node (with_agendas (k.Visits key press (Some m) left ∷ later) c) m) (with_agendas (k.Visits key press (Some m) left ∷ later) c) w

  first_within : (ch : Channel) (x : Actor) (tree : t.Tree) (c : Core) → IsWithin n c → IfWithin n (step_first ch x tree c)
  first_within ch x (Works call spot tasks below) c w =
      let s : Reduced = reduce ch.program 0 x.homes (Works call spot tasks below) x.store in
      first_shows_within ch s.outcome (put_back 0 s c) (actor_within n 0 (with_state (state s.tree s.store)) c (λ y. refl) w)
  first_within ch x (Waits below) c w = waits_within ch (is_idle (Waits below)) c.agendas c w

-- ---- one step more

up : {n : ℕ} {nodes : List Node} {ports : List (List Message)} {actors : List Actor} → Within n nodes ports actors → Within (suc n) nodes ports actors
up w = record { few_nodes = w.few_nodes; few_ports = w.few_ports; few_actors = w.few_actors; few_posts = λ a. let h = w.few_posts a in omega (arith, h) }

if_up : (n : ℕ) (o : Option Moved) → IfWithin n o → IfWithin (suc n) o
if_up n None w = tt
if_up n (Some m) w = up w

-- ---- another actor

module _ (n : ℕ) where
  post_within : (a number : ℕ) (e : Entry) (c : Core) → IsWithin n c → IsWithin (suc n) (post_entry a number e c).core
  post_within a number e c w = record {
    few_nodes = w.few_nodes;
    few_ports = w.few_ports;
    few_actors = subst (λ k. k ≤ 4096) (sym (length_changed with_post c.actors a)) w.few_actors;
    few_posts = λ b. at_changed (λ o. posts_of o ≤ suc n) with_post c.actors a b (λ same x ex h. let old : x.posts ≤ n = subst (λ o. posts_of o ≤ n) ex (w.few_posts b) in omega (arith, old)) (let h = w.few_posts b in omega (arith, h));
  }

  over_within : (a : ℕ) (c : Core) → IsWithin n c → IsWithin n (end_actor a c)
  over_within a c w = actor_within n a ended c (λ x. refl) w

  last_within : (a : ℕ) (done : Bool) (c : Core) → IsWithin n c → IsWithin (suc n) (post_last a done (end_actor a c)).core
  last_within a done c w = post_within a (posts_of (actor_at (end_actor a c) a) + 1) (LastEntry a (posts_of (actor_at (end_actor a c) a) + 1) done) (end_actor a c) (over_within a c w)

  other_fails_within : (b : ℕ) (e : ErrorCode) (at : Place) (c : Core) → IsWithin n c → IsWithin (suc n) (fail (suc b) e at c).core
  other_fails_within zero e at c w = up (over_within 1 c w)
  other_fails_within (suc b) e at c w = last_within (suc (suc b)) false c w

  fails_where_within : (b : ℕ) (e : ErrorCode) (o : Option Place) (c : Core) → IsWithin n c → IsWithin (suc n) (fail_where (suc b) e o c).core
  fails_where_within b e None c w = up w
  fails_where_within b e (Some at) c w = other_fails_within b e at c w

  leave_within : (b : ℕ) (c : Core) → IsWithin n c → IsWithin (suc n) (leave (suc b) c).core
  leave_within zero c w = up (over_within 1 c w)
  leave_within (suc b) c w = last_within (suc (suc b)) true c w

  port_within : (b : ℕ) (room : Bool) (c : Core) → nat_lt (length c.ports) most_ports ≡ room → IsWithin n c → IsWithin (suc n) (make_port room (suc b) c).core
  port_within b true c e w = up (new_port_within n (suc b) c e w)
  port_within b false c e w = fails_where_within b E11 (want_place (tree_of_actor (actor_at c (suc b)))) c w

  answer_own_within : (b : ℕ) (o : Result) (c : Core) → IsWithin n c → IsWithin (suc n) (answer_own (suc b) o c).core
  answer_own_within b (Gives v) c w = up (hand_within n (suc b) (Value v) c w)
  answer_own_within b (Raises e) c w = fails_where_within b e (want_place (tree_of_actor (actor_at c (suc b)))) c w
  answer_own_within b Jobs c w = up w
  answer_own_within b (Calls f home arguments) c w = up w

  set_own_within : (o : SetResult) (m : ℕ) (f : Text) (v : Tree) (c : Core) → IsWithin n c → IsWithin n (set_own_by o m f v c).after.core
  set_own_within NoField m f v c w = w
  set_own_within NoFit m f v c w = w
  set_own_within Same m f v c w = w
  set_own_within Changed m f v c w = set_within n m f v c w

  made_own_within : (m : ℕ) (parent : Option ℕ) (o : Option (List Node)) (c : Core) → ((nodes : List Node) → o ≡ Some nodes → length nodes ≤ 1048576) → IsWithin n c → IsWithin n (made_own m parent o c).after.core
  made_own_within m parent None c few w = w
  made_own_within m parent (Some nodes) c few w = with_nodes n (below parent nodes m) c (few_below parent nodes m (few nodes refl)) w

  make_own_within : (ch : Channel) (a : ℕ) (kind parent : Option ℕ) (c : Core) → IsWithin n c → IsWithin n (make_own ch a kind parent c).after.core
  make_own_within ch a None parent c w = w
  make_own_within ch a (Some kind) parent c w = made_own_within (length c.nodes + 1) parent (nodes_made ch.plans c.nodes kind a) c (few_made ch.plans c.nodes kind a) w

  own_within : (ch : Channel) (a : ℕ) (access : Access) (c : Core) → IsWithin n c → IsWithin n (own_effect ch a access c).after.core
  own_within ch a (Make kind) c w = make_own_within ch a (kind_named ch kind) None c w
  own_within ch a (Create m kind) c w = make_own_within ch a (kind_named ch kind) (Some m) c w
  own_within ch a (Set m f v) c w = set_own_within (set_of c m f v) m f v c w
  own_within ch a (Scene kind) c w = quiet_within n (Scene kind) c w
  own_within ch a (Get m f) c w = quiet_within n (Get m f) c w
  own_within ch a (Has m f) c w = quiet_within n (Has m f) c w
  own_within ch a (Add m f kind always) c w = quiet_within n (Add m f kind always) c w
  own_within ch a (ObserveBy m f function) c w = quiet_within n (ObserveBy m f function) c w
  own_within ch a (ObserveAt m f port) c w = quiet_within n (ObserveAt m f port) c w
  own_within ch a (Unobserve m f) c w = quiet_within n (Unobserve m f) c w
  own_within ch a (Append m child) c w = quiet_within n (Append m child) c w
  own_within ch a (Insert m child at) c w = quiet_within n (Insert m child at) c w
  own_within ch a (Remove m child) c w = quiet_within n (Remove m child) c w
  own_within ch a (Child m at) c w = quiet_within n (Child m at) c w
  own_within ch a (Count m) c w = quiet_within n (Count m) c w
  own_within ch a (Parent m) c w = quiet_within n (Parent m) c w
  own_within ch a (Find m id) c w = quiet_within n (Find m id) c w
  own_within ch a (Focus m on) c w = quiet_within n (Focus m on) c w
  own_within ch a (HasFocus m) c w = quiet_within n (HasFocus m) c w
  own_within ch a (InChain m) c w = quiet_within n (InChain m) c w
  own_within ch a (Subtype m) c w = quiet_within n (Subtype m) c w
  own_within ch a (CallFunc m name arguments) c w = quiet_within n (CallFunc m name arguments) c w

  access_within : (local : Bool) (ch : Channel) (b : ℕ) (access : Access) (c : Core) → IsWithin n c → IsWithin (suc n) (access_by local ch (suc b) access c).core
  access_within true ch b access c w = answer_own_within b (own_effect ch (suc b) access c).result (own_effect ch (suc b) access c).after.core (own_within ch (suc b) access c w)
  access_within false ch b access c w = post_within (suc b) (posts_of (actor_at c (suc b)) + 1) (AccessEntry (suc b) (posts_of (actor_at c (suc b)) + 1) access) c w

  ask_within : (ch : Channel) (b : ℕ) (request : Request) (c : Core) → IsWithin n c → IsWithin (suc n) (ask ch (suc b) request c).core
  ask_within ch b (Asks access) c w = access_within (is_local (suc b) access c.nodes) ch b access c w
  ask_within ch b MakePort c w = port_within b (nat_lt (length c.ports) most_ports) c refl w
  ask_within ch b (Wait port limited) c w = up (take_within n (messages_of c.ports port) port (suc b) c w)
  ask_within ch b (Poll port) c w = up (take_within n (messages_of c.ports port) port (suc b) c w)

  other_shows_within : (ch : Channel) (b : ℕ) (o : Outcome) (c : Core) → IsWithin n c → IsWithin (suc n) (other_shows ch (suc b) o c).core
  other_shows_within ch b Went c w = up w
  other_shows_within ch b (Printed text) c w = up w
  other_shows_within ch b (Asked request) c w = ask_within ch b request c w
  other_shows_within ch b (Raised e at) c w = other_fails_within b e at c w
  other_shows_within ch b (Returned v) c w = leave_within b c w
  other_shows_within ch b (TooBig at) c w = leave_within b c w

  unless_within : (b : Bool) (m : Moved) → IsWithin (suc n) m.core → IfWithin (suc n) (unless b m)
  unless_within true m w = tt
  unless_within false m w = w

  other_within : (ch : Channel) (b : ℕ) (x : Actor) (tree : t.Tree) (c : Core) → IsWithin n c → IfWithin (suc n) (step_other ch (suc b) x tree c)
  other_within ch b x (Waits below) c w = tt
  other_within ch b x (Works call spot tasks below) c w =
      let s : Reduced = reduce ch.program (suc b) x.homes (Works call spot tasks below) x.store in
      unless_within (waits ch (suc b) x c) (other_shows ch (suc b) s.outcome (put_back (suc b) s c)) (other_shows_within ch b s.outcome (put_back (suc b) s c) (actor_within n (suc b) (with_state (state s.tree s.store)) c (λ y. refl) w))

  live_within : (live : Bool) (ch : Channel) (a : ℕ) (x : Actor) (c : Core) → IsWithin n c → IfWithin (suc n) (step_live live ch a x c)
  live_within false ch a x c w = tt
  live_within true ch zero x c w = if_up n (step_first ch x x.tree c) (first_within n ch x x.tree c w)
  live_within true ch (suc b) x c w = other_within ch b x x.tree c w

  actor_step_within : (ch : Channel) (a : ℕ) (o : Option Actor) (c : Core) → IsWithin n c → IfWithin (suc n) (step_actor ch a o c)
  actor_step_within ch a None c w = tt
  actor_step_within ch a (Some x) c w = live_within x.live ch a x c w

  running_within : (o : Option EndReason) (ch : Channel) (a : ℕ) (c : Core) → IsWithin n c → IfWithin (suc n) (step_running o ch a c)
  running_within (Some reason) ch a c w = tt
  running_within None ch a c w = actor_step_within ch a (actor_at c a) c w

pub step_counts : StepCounts
step_counts ch a n c w = running_within n c.ending ch a c w
