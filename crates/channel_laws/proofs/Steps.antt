-- Each step keeps the rule.
use Rattle.std.proofs.Common.{◌≡◌, ℕ, zero, suc, ◌+◌, Bool, true, false, List, [], ◌∷◌, Option, Some, None, refl, sym, ap, ◌∙◌, subst}
use Rattle.std.specs.Prelude.{◌&&◌, filter, slice_get, length, nat_lt, codes}
use Rattle.chan_values.specs.Folded.{folded}
use Rattle.chan_values.specs.declared.end_reason.EndReason.{EndReason}
use Rattle.chan_values.specs.declared.error_code.ErrorCode.TheVariants.{E11}
use Rattle.chan_values.specs.declared.key.Key.{Key}
use Rattle.chan_values.specs.declared.message.Message.{Message}
use Rattle.chan_values.specs.Tree.{Words, PortNumber, Tree, Leaf}
use Rattle.field_types.specs.declared.types.FieldType.{FieldType}
use Rattle.field_types.specs.Words.{type_words, type_beside}
use Rattle.message_ports.specs.Messages.{messages_of}
use Rattle.node_tree.specs.declared.node.Node.{Node}
use Rattle.node_tree.specs.Nodes.{changed}
use Rattle.node_tree.specs.declared.answers.SetResult.{SetResult}
use Rattle.node_tree.specs.declared.answers.SetResult.TheVariants.{NoField, NoFit, Same, Changed}
use Rattle.trace_report.specs.declared.entry.EntryName.{EntryName}
use Rattle.trace_report.specs.declared.entry.EntryName.TheVariants as entry
use Rattle.brs_grammar.specs.Form.{Text}
use Rattle.brs_meaning.specs.Running as t
use Rattle.brs_meaning.specs.Running.{Works, Waits}
use Rattle.brs_meaning.specs.Request.{Access, Make, Scene, Get, Set, Has, Add, ObserveBy, ObserveAt, Unobserve, Append, Insert, Remove, Create, Child, Count, Parent, Find, Focus, HasFocus, InChain, Subtype, CallFunc, Request, Asks, MakePort, Wait, Poll}
use Rattle.brs_meaning.specs.Reduction.{Outcome, Went, Asked, Printed, Raised, Returned, TooBig, Reduced, reduce}
use Rattle.brs_meaning.specs.Answering.{Reply, Value, Values, Told, state, is_idle, is_at_work, want_place, want_home}
use Rattle.focus_keys.specs.Chain.{focus_chain}
use Rattle.world_meaning.specs.Channel.{Channel, handles_keys, kind_named}
use Rattle.world_meaning.specs.Labels.{Begins, Ends, Walks, Visits}
use Rattle.world_meaning.specs.Core as k
use Rattle.world_meaning.specs.Core.{Entry, KeyEntry, AccessEntry, LastEntry, name_of, names, Closing, Hands, GoesBack, Begun, EntryEnd, Agenda, Deliveries, Inits, Called, Actor, Core, Moved, moved, actor_at, change_actor, with_agendas, posts_of, tree_of_actor, home_of_node}
use Rattle.world_meaning.specs.Ending.{with_state, handed, hand}
use Rattle.world_meaning.specs.Agendas.{Came, TooLarge, settle, call_handler, invalid}
use Rattle.world_meaning.specs.Effect.{Result, Gives, Raises, Jobs, Calls, Effect}
use Rattle.world_meaning.specs.Changing.{set_of}
use Rattle.world_meaning.specs.NodesMade.{nodes_made}
use Rattle.world_meaning.specs.Accesses.{add_field, effect}
use Rattle.world_meaning.specs.Asking.{make_port, take_message, is_local, set_own_by, made_own, make_own, own_effect, answer_own, access_own, post, access_by, ask, most_ports}
use Rattle.world_meaning.specs.Entries.{begin_key, give_to_render, last_of, set_state_by, set_state, begin_entry, begin, closed, end_entry, at_inbox, state_word}
use Rattle.world_meaning.specs.Steps.{put_back, first_asks, first_shows, if_idle, first_waits, step_first, other_shows, waits, unless, step_other, step_live, step_actor, step_running, step}
use Rattle.channel_meaning.specs.History as l
use Rattle.channel_meaning.specs.History.{Walk, History, change_newest, with_visit, recorded, record_all}
use Rattle.channel_laws.specs.Laws.{scan, talks, Phase, Free, Waiting, Open, Gone}
use Rattle.channel_laws.specs.Rule.{IsFree, working, AllDone, Walked, name_of_begun, Holds, Rule, IfMoved}
use Rattle.channel_laws.proofs.Lists.{at_changed, get_changed}
use Rattle.channel_laws.proofs.Walks.{begun_walk, visited_walk}
use Rattle.channel_laws.proofs.Changes.{local_delivered}
use Rattle.channel_laws.proofs.Acts.{FreeNow, actors_change, own_changes, other_changes, begin_act, end_act}
use Rattle.channel_laws.proofs.Outcomes.{IfAsked, asking_waits}
use Rattle.channel_laws.proofs.Keeping.{Keeps, With, followed_keeps, followed_at, quiet_print, quiet_here, walks_change, with_agenda, first_actor, posts_handed, fail_first, fail_first_where, post_keeps, fail_keeps, fail_where_keeps, leave_keeps, settle_keeps, finish_keeps, call_keeps, deliver_keeps, visit_keeps}
use Rattle.channel_laws.proofs.Accesses.{serve_keeps, change_keeps, effect_keeps}

-- ---- actor 0

pub port_keeps : (m : List Message) (port : ℕ) (c : Core) (h : History) → Rule c h → Keeps (take_message m port 0 c) h
port_keeps [] port c h r = first_actor (handed (Value invalid)) c.agendas c h r
port_keeps (x ∷ rest) port c h r = first_actor (handed (Told x)) c.agendas c h r

make_port_keeps : (room : Bool) (c : Core) (h : History) → Rule c h → Keeps (make_port room 0 c) h
make_port_keeps true c h r = first_actor (handed (Value (Leaf (PortNumber (length c.ports + 1))))) c.agendas c h r
make_port_keeps false c h r = fail_first_where E11 (want_place (tree_of_actor (actor_at c 0))) c h r

first_asks_keeps : (ch : Channel) (request : Request) (c : Core) (h : History) → Rule c h → Keeps (first_asks ch request c) h
first_asks_keeps ch (Asks access) c h r = serve_keeps (effect ch (want_home (tree_of_actor (actor_at c 0))) access c) h (effect_keeps ch (want_home (tree_of_actor (actor_at c 0))) access c h r)
first_asks_keeps ch MakePort c h r = make_port_keeps (nat_lt (length c.ports) most_ports) c h r
first_asks_keeps ch (Wait port limited) c h r = port_keeps (messages_of c.ports port) port c h r
first_asks_keeps ch (Poll port) c h r = port_keeps (messages_of c.ports port) port c h r

first_shows_keeps : (ch : Channel) (o : Outcome) (c : Core) (h : History) → Rule c h → Keeps (first_shows ch o c) h
first_shows_keeps ch Went c h r = r
first_shows_keeps ch (Printed text) c h r = quiet_here (l.Printed 0 text) c.agendas c h (quiet_print 0 text) r
first_shows_keeps ch (Asked request) c h r = first_asks_keeps ch request c h r
first_shows_keeps ch (Raised e at) c h r = fail_first e at c h r
first_shows_keeps ch (Returned v) c h r = finish_keeps (Came v) c h r
first_shows_keeps ch (TooBig at) c h r = finish_keeps (TooLarge at) c h r

-- ---- entries

begin_key_keeps : (ch : Channel) (number : ℕ) (key : Key) (press : Bool) (c : Core) (h : History) → c.agendas ≡ [] → name_of_begun c.begun ≡ Some (entry.Key number) → Rule c h → Keeps (begin_key ch number key press c) h
begin_key_keeps ch number key press c h ea eb r =
    let handlers : List ℕ = filter (handles_keys ch c.nodes) (focus_chain c.nodes c.focus) in
    let new : Walk = record { number = number; handlers = handlers; visits = [] } in
    let done : AllDone h.walks = subst (λ g. Walked g (name_of_begun c.begun) h.walks) ea r.walks in
    let one : Walked (k.Visits key press None handlers ∷ []) (name_of_begun c.begun) (new ∷ h.walks) = subst (λ E. Walked (k.Visits key press None handlers ∷ []) E (new ∷ h.walks)) (sym eb) (begun_walk key press number handlers h.walks done) in
    let all : Walked (k.Visits key press None handlers ∷ c.agendas) (name_of_begun c.begun) (new ∷ h.walks) = subst (λ g. Walked (k.Visits key press None handlers ∷ g) (name_of_begun c.begun) (new ∷ h.walks)) (sym ea) one in
    followed_keeps (moved (record c { agendas = k.Visits key press None handlers ∷ c.agendas }) (Walks number handlers ∷ [])) settle h
    (walks_change (new ∷ h.walks) c.agendas (k.Visits key press None handlers ∷ c.agendas) c h (λ cs z. z) all r) (λ g i. settle_keeps (record c { agendas = k.Visits key press None handlers ∷ c.agendas }) g i)

state_keeps : (o : SetResult) (n : ℕ) (v : Tree) (c : Core) (h : History) → c.agendas ≡ [] → Rule c h → Keeps (set_state_by o n v c).after h
state_keeps NoField n v c h e r = r
state_keeps NoFit n v c h e r = r
state_keeps Same n v c h e r = r
state_keeps Changed n v c h e r = change_keeps n (codes "state") v EntryEnd c h e r

set_state_keeps : (o : Option ℕ) (returned : Bool) (c : Core) (h : History) → c.agendas ≡ [] → Rule c h → Keeps (set_state o returned c).after h
set_state_keeps None returned c h e r = r
set_state_keeps (Some n) returned c h e r = state_keeps (set_of c n (codes "state") (Leaf (Words (state_word returned)))) n (Leaf (Words (state_word returned))) c h e r

begin_entry_keeps : (ch : Channel) (e : Entry) (c : Core) (h : History) → c.agendas ≡ [] → name_of_begun c.begun ≡ Some (name_of e) → Rule c h → Keeps (begin_entry ch e c) h
begin_entry_keeps ch (KeyEntry number key press) c h e b r = begin_key_keeps ch number key press c h e b r
begin_entry_keeps ch (AccessEntry a number access) c h e b r = serve_keeps (effect ch None access (give_to_render access c)) h (effect_keeps ch None access (give_to_render access c) h r)
begin_entry_keeps ch (LastEntry a number returned) c h e b r = serve_keeps (set_state (last_of c.actors a) returned c) h (set_state_keeps (last_of c.actors a) returned c h e r)

begin_keeps : (ch : Channel) (e : Entry) (rest : List Entry) (c : Core) (h : History) → c.agendas ≡ [] → c.inbox ≡ e ∷ rest → c.begun ≡ None → Rule c h → Keeps (begin ch e rest c) h
begin_keeps ch e rest c h ea ei eb r =
    let one : Holds c.actors (name_of e ∷ names rest) (name_of_begun c.begun) c.agendas h = subst (λ ns. Holds c.actors ns (name_of_begun c.begun) c.agendas h) (ap names ei) r in
    let two : Holds c.actors (name_of e ∷ names rest) None c.agendas h = subst (λ b. Holds c.actors (name_of e ∷ names rest) b c.agendas h) (ap name_of_begun eb) one in
    followed_keeps (moved (record c { inbox = rest; begun = Some (record { name = name_of e; closing = None }) }) (Begins (name_of e) ∷ [])) (begin_entry ch e) h
    (begin_act (name_of e) c.actors (names rest) c.agendas h two) (λ g i. begin_entry_keeps ch e (record c { inbox = rest; begun = Some (record { name = name_of e; closing = None }) }) g ea refl i)

same_keeps : (n : EntryName) (c : Core) (h : History) → c.agendas ≡ [] → Holds c.actors (names c.inbox) (Some n) c.agendas h → Holds c.actors (names c.inbox) None c.agendas (recorded (Ends n) h)
same_keeps n c h e r =
    subst (λ g. Holds c.actors (names c.inbox) None g (recorded (Ends n) h)) (sym e)
    (end_act n c.actors c.actors (names c.inbox) h (λ b. refl) (λ b p ne i. i) (subst (λ g. Holds c.actors (names c.inbox) (Some n) g h) e r))

hand_keeps : (n : EntryName) (closing : Closing) (c : Core) (h : History) → c.agendas ≡ [] → Holds c.actors (names c.inbox) (Some n) c.agendas h → Keeps (moved (closed n closing (record c { begun = None })) (Ends n ∷ [])) h
hand_keeps (entry.Post a i) (Hands reply) c h e r =
    subst (λ g. Holds (changed (handed reply) c.actors a) (names c.inbox) None g (recorded (Ends (entry.Post a i)) h)) (sym e)
    (end_act (entry.Post a i) c.actors (changed (handed reply) c.actors a) (names c.inbox) h
    (λ b. at_changed (λ o. posts_of o ≡ posts_of (slice_get c.actors b)) (handed reply) c.actors a b (λ same x ex i. posts_handed reply x ∙ i) refl)
    (λ b p ne. other_changes (handed reply) c.actors a b p ne)
    (subst (λ g. Holds c.actors (names c.inbox) (Some (entry.Post a i)) g h) e r))
hand_keeps (entry.Post a i) GoesBack c h e r = same_keeps (entry.Post a i) c h e r
hand_keeps (entry.Key i) (Hands reply) c h e r = same_keeps (entry.Key i) c h e r
hand_keeps (entry.Key i) GoesBack c h e r = same_keeps (entry.Key i) c h e r

end_keeps : (n : EntryName) (o : Option Closing) (c : Core) (h : History) → c.agendas ≡ [] → name_of_begun c.begun ≡ Some n → Rule c h → IfMoved (end_entry n o c) h
end_keeps n None c h ea eb r = tt
end_keeps n (Some closing) c h ea eb r = hand_keeps n closing c h ea (subst (λ b. Holds c.actors (names c.inbox) b c.agendas h) eb r)

inbox_keeps : (ch : Channel) (o : Option Begun) (inbox : List Entry) (c : Core) (h : History) → c.agendas ≡ [] → c.begun ≡ o → c.inbox ≡ inbox → Rule c h → IfMoved (at_inbox ch o inbox c) h
inbox_keeps ch (Some b) inbox c h ea eb ei r = end_keeps b.name b.closing c h ea (ap name_of_begun eb) r
inbox_keeps ch None [] c h ea eb ei r = tt
inbox_keeps ch None (e ∷ rest) c h ea eb ei r = begin_keeps ch e rest c h ea ei eb r

idle_keeps : (ch : Channel) (idle : Bool) (c : Core) (h : History) → c.agendas ≡ [] → Rule c h → IfMoved (if_idle idle (at_inbox ch c.begun c.inbox c)) h
idle_keeps ch true c h e r = inbox_keeps ch c.begun c.inbox c h e refl refl r
idle_keeps ch false c h e r = tt

waits_keeps : (ch : Channel) (idle : Bool) (G : List Agenda) (c : Core) (h : History) → c.agendas ≡ G → Rule c h → IfMoved (first_waits ch idle G c) h
waits_keeps ch idle [] c h e r = idle_keeps ch idle c h e r
waits_keeps ch idle (Deliveries true message left next ∷ later) c h e r = tt
waits_keeps ch idle (Deliveries false message [] next ∷ later) c h e r = tt
waits_keeps ch idle (Deliveries false message (x ∷ left) next ∷ later) c h e r = deliver_keeps ch message x left next later c h (subst (λ g. With g c h) e r)
waits_keeps ch idle (Inits true left reply ∷ later) c h e r = tt
waits_keeps ch idle (Inits false [] reply ∷ later) c h e r = tt
waits_keeps ch idle (Inits false (i ∷ left) reply ∷ later) c h e r =
    call_keeps (ch.program.function i.function) i.home (Values []) (with_agendas (Inits true left reply ∷ later) c) h (with_agenda (Inits false (i ∷ left) reply ∷ later) (Inits true left reply ∷ later) c h (λ cs z. z) (λ w. w) (subst (λ g. With g c h) e r))
waits_keeps ch idle (Called ∷ later) c h e r = tt
waits_keeps ch idle (k.Visits key press (Some n) left ∷ later) c h e r = tt
waits_keeps ch idle (k.Visits key press None [] ∷ later) c h e r = tt
waits_keeps ch idle (k.Visits key press None (n ∷ left) ∷ later) c h e r =
    let d : Core = with_agendas (k.Visits key press (Some n) left ∷ later) c in
    followed_keeps (moved d (Visits n ∷ [])) (call_handler ch key press n (home_of_node d n)) h
    (walks_change (change_newest (with_visit n) h.walks) (k.Visits key press None (n ∷ left) ∷ later) (k.Visits key press (Some n) left ∷ later) c h (λ cs z. z)
    (visited_walk key press n left later (name_of_begun c.begun) h.walks (subst (λ g. Walked g (name_of_begun c.begun) h.walks) e r.walks)) (subst (λ g. With g c h) e r))
    (λ g i. visit_keeps ch key press n (home_of_node d n) d g i)

first_keeps : (ch : Channel) (x : Actor) (tree : t.Tree) (c : Core) (h : History) → Rule c h → IfMoved (step_first ch x tree c) h
first_keeps ch x (Works call spot tasks below) c h r =
    let s : Reduced = reduce ch.program 0 x.homes (Works call spot tasks below) x.store in
    first_shows_keeps ch s.outcome (put_back 0 s c) h (first_actor (with_state (state s.tree s.store)) c.agendas c h r)
first_keeps ch x (Waits below) c h r = waits_keeps ch (is_idle (Waits below)) c.agendas c h refl r

-- ---- another actor, which has no post that waits or has begun

-- what an access at an own node leaves: the actors, and the trace
record IsOwn (c : Core) (h : History) (e : Effect) : Type 0 where
  keeps : Keeps e.after h
  trace : (record_all e.after.labels h).trace ≡ h.trace
  actors : e.after.core.actors ≡ c.actors

module _ (b : ℕ) (c : Core) (h : History) (free : FreeNow (suc b) h.trace) (r : Rule c h) where
  pub own_actor : (f : Actor → Actor) → ((y : Actor) → (f y).posts ≡ y.posts) → Rule (change_actor (suc b) f c) h
  own_actor f same = actors_change c.actors (changed f c.actors (suc b)) (names c.inbox) (name_of_begun c.begun) c.agendas h (own_changes f c.actors (suc b) h.trace same free) r

  pub own_hand : (reply : Reply) → Rule (hand (suc b) reply c) h
  own_hand reply = own_actor (handed reply) (posts_handed reply)

  answer_own_keeps : (x : Actor) → actor_at c (suc b) ≡ Some x → (o : Result) → Keeps (answer_own (suc b) o c) h
  answer_own_keeps x ex (Gives v) = own_hand (Value v)
  answer_own_keeps x ex (Raises e) = fail_where_keeps b e (want_place (tree_of_actor (actor_at c (suc b)))) c h x ex free r
  answer_own_keeps x ex Jobs = r
  answer_own_keeps x ex (Calls f home arguments) = r

  own_take : (m : List Message) (port : ℕ) → Keeps (take_message m port (suc b) c) h
  own_take [] port = own_hand (Value invalid)
  own_take (m ∷ rest) port = own_hand (Told m)

  own_port : (x : Actor) → actor_at c (suc b) ≡ Some x → (room : Bool) → Keeps (make_port room (suc b) c) h
  own_port x ex true = own_hand (Value (Leaf (PortNumber (length c.ports + 1))))
  own_port x ex false = fail_where_keeps b E11 (want_place (tree_of_actor (actor_at c (suc b)))) c h x ex free r

module _ (ch : Channel) (b : ℕ) (c : Core) (h : History) (r : Rule c h) where
  set_own : (o : SetResult) (n : ℕ) (f : Text) (v : Tree) → IsOwn c h (set_own_by o n f v c)
  set_own NoField n f v = record { keeps = r; trace = refl; actors = refl }
  set_own NoFit n f v = record { keeps = r; trace = refl; actors = refl }
  set_own Same n f v = record { keeps = r; trace = refl; actors = refl }
  set_own Changed n f v = record {
    keeps = record {
      actor = r.actor;
      entries = r.entries;
      deliveries = local_delivered n (folded f) _ c.agendas h.answered h.unanswered h.trace r.deliveries;
      walks = r.walks;
    };
    trace = refl;
    actors = refl;
  }

  made_own_is : (n : ℕ) (parent : Option ℕ) (o : Option (List Node)) → IsOwn c h (made_own n parent o c)
  made_own_is n parent None = record { keeps = r; trace = refl; actors = refl }
  made_own_is n parent (Some nodes) = record { keeps = r; trace = refl; actors = refl }

  make_own_is : (kind parent : Option ℕ) → IsOwn c h (make_own ch (suc b) kind parent c)
  make_own_is None parent = record { keeps = r; trace = refl; actors = refl }
  make_own_is (Some kind) parent = made_own_is (length c.nodes + 1) parent (nodes_made ch.plans c.nodes kind (suc b))

  add_own : (n : ℕ) (f : Text) (o : Option FieldType) (always : Bool) → IsOwn c h (add_field n f o always c)
  add_own n f None always = record { keeps = r; trace = refl; actors = refl }
  add_own n f (Some t) always = record { keeps = r; trace = refl; actors = refl }

  own_is : (access : Access) → IsOwn c h (own_effect ch (suc b) access c)
  own_is (Make kind) = make_own_is (kind_named ch kind) None
  own_is (Create n kind) = make_own_is (kind_named ch kind) (Some n)
  own_is (Set n f v) = set_own (set_of c n f v) n f v
  own_is (Add n f kind always) = add_own n f (type_beside type_words kind) always
  own_is (Scene kind) = record { keeps = r; trace = refl; actors = refl }
  own_is (Get n f) = record { keeps = r; trace = refl; actors = refl }
  own_is (Has n f) = record { keeps = r; trace = refl; actors = refl }
  own_is (ObserveBy n f function) = record { keeps = r; trace = refl; actors = refl }
  own_is (ObserveAt n f port) = record { keeps = r; trace = refl; actors = refl }
  own_is (Unobserve n f) = record { keeps = r; trace = refl; actors = refl }
  own_is (Append n child) = record { keeps = r; trace = refl; actors = refl }
  own_is (Insert n child at) = record { keeps = r; trace = refl; actors = refl }
  own_is (Remove n child) = record { keeps = r; trace = refl; actors = refl }
  own_is (Child n at) = record { keeps = r; trace = refl; actors = refl }
  own_is (Count n) = record { keeps = r; trace = refl; actors = refl }
  own_is (Parent n) = record { keeps = r; trace = refl; actors = refl }
  own_is (Find n id) = record { keeps = r; trace = refl; actors = refl }
  own_is (Focus n on) = record { keeps = r; trace = refl; actors = refl }
  own_is (HasFocus n) = record { keeps = r; trace = refl; actors = refl }
  own_is (InChain n) = record { keeps = r; trace = refl; actors = refl }
  own_is (Subtype n) = record { keeps = r; trace = refl; actors = refl }
  own_is (CallFunc n name arguments) = record { keeps = r; trace = refl; actors = refl }

  module _ (x : Actor) (ex : actor_at c (suc b) ≡ Some x) (free : FreeNow (suc b) h.trace) where
    access_own_keeps : (access : Access) → Keeps (access_own ch (suc b) access c) h
    access_own_keeps access =
        let e : Effect = own_effect ch (suc b) access c in
        let own : IsOwn c h e = own_is access in
        let g : History = record_all e.after.labels h in
        followed_at e.after (answer_own (suc b) e.result) h
        (answer_own_keeps b e.after.core g (subst (FreeNow (suc b)) (sym own.trace) free) own.keeps x (ap (λ A. slice_get A (suc b)) own.actors ∙ ex) e.result)

    module _ (idle : is_at_work x.tree ≡ false) where
      posted_keeps : (access : Access) → Keeps (post (suc b) access c) h
      posted_keeps access = post_keeps b (AccessEntry (suc b) (posts_of (actor_at c (suc b)) + 1) access) c h x refl ex (ap (λ t. x.live && t) idle ∙ both x.live) free r
        where
          both : (t : Bool) → (t && false) ≡ false
          both true = refl
          both false = refl

      access_keeps : (local : Bool) (access : Access) → Keeps (access_by local ch (suc b) access c) h
      access_keeps true access = access_own_keeps access
      access_keeps false access = posted_keeps access

      ask_keeps : (request : Request) → Keeps (ask ch (suc b) request c) h
      ask_keeps (Asks access) = access_keeps (is_local (suc b) access c.nodes) access
      ask_keeps MakePort = own_port b c h free r x ex (nat_lt (length c.ports) most_ports)
      ask_keeps (Wait port limited) = own_take b c h free r (messages_of c.ports port) port
      ask_keeps (Poll port) = own_take b c h free r (messages_of c.ports port) port

    shows_keeps : (o : Outcome) → IfAsked o x.tree → Keeps (other_shows ch (suc b) o c) h
    shows_keeps Went i = r
    shows_keeps (Printed text) i = quiet_here (l.Printed (suc b) text) c.agendas c h (quiet_print (suc b) text) r
    shows_keeps (Asked request) i = ask_keeps i request
    shows_keeps (Raised e at) i = fail_keeps b e at c h x ex free r
    shows_keeps (Returned v) i = leave_keeps b c h x ex free r
    shows_keeps (TooBig at) i = leave_keeps b c h x ex free r

-- an actor at work is free
pub free_now : (b : ℕ) (x : Actor) (c : Core) (h : History) → actor_at c (suc b) ≡ Some x → working (Some x) ≡ true → Rule c h → FreeNow (suc b) h.trace
free_now b x c h ex w r =
    let i = r.actor b in
    go i.phase i.told (i.is.works (ap working ex ∙ w))
  where
    go : (p : Phase) → scan (talks (suc b)) h.trace (Free 0) ≡ Some p → IsFree p → FreeNow (suc b) h.trace
    go (Free n) e f = (n, e)
    go (Waiting n) e f = absurd f
    go (Open n) e f = absurd f
    go (Gone n) e f = absurd f

unless_keeps : (b : Bool) (m : Moved) (h : History) → Keeps m h → IfMoved (unless b m) h
unless_keeps true m h i = tt
unless_keeps false m h i = i

other_step : (ch : Channel) (b : ℕ) (x : Actor) (tree : t.Tree) (c : Core) (h : History) → actor_at c (suc b) ≡ Some x → x.live ≡ true → x.tree ≡ tree → Rule c h → IfMoved (step_other ch (suc b) x tree c) h
other_step ch b x (Waits below) c h ex el et r = tt
other_step ch b x (Works call spot tasks below) c h ex el et r =
    let free : FreeNow (suc b) h.trace = free_now b x c h ex (ap (λ l. l && is_at_work x.tree) el ∙ ap is_at_work et) r in
    let s : Reduced = reduce ch.program (suc b) x.homes (Works call spot tasks below) x.store in
    let f : Actor → Actor = with_state (state s.tree s.store) in
    unless_keeps (waits ch (suc b) x c) (other_shows ch (suc b) s.outcome (put_back (suc b) s c)) h
    (shows_keeps ch b (put_back (suc b) s c) h (own_actor b c h free r f (λ y. refl)) (f x) (get_changed f c.actors (suc b) x ex) free s.outcome (asking_waits ch.program (suc b) x.homes (Works call spot tasks below) x.store))

live_keeps : (ch : Channel) (live : Bool) (a : ℕ) (x : Actor) (c : Core) (h : History) → actor_at c a ≡ Some x → x.live ≡ live → Rule c h → IfMoved (step_live live ch a x c) h
live_keeps ch false a x c h ex el r = tt
live_keeps ch true zero x c h ex el r = first_keeps ch x x.tree c h r
live_keeps ch true (suc b) x c h ex el r = other_step ch b x x.tree c h ex el refl r

actor_keeps : (ch : Channel) (a : ℕ) (o : Option Actor) (c : Core) (h : History) → actor_at c a ≡ o → Rule c h → IfMoved (step_actor ch a o c) h
actor_keeps ch a None c h e r = tt
actor_keeps ch a (Some x) c h e r = live_keeps ch x.live a x c h e refl r

running_keeps : (o : Option EndReason) (ch : Channel) (a : ℕ) (c : Core) (h : History) → Rule c h → IfMoved (step_running o ch a c) h
running_keeps (Some reason) ch a c h r = tt
running_keeps None ch a c h r = actor_keeps ch a (actor_at c a) c h refl r

pub step_keeps : (ch : Channel) (a : ℕ) (c : Core) (h : History) → Rule c h → IfMoved (step ch a c) h
step_keeps ch a c h r = running_keeps c.ending ch a c h r
