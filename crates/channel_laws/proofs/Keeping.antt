-- What an end, an answer and a job keep.
use Rattle.std.proofs.Common.{◌≡◌, ℕ, zero, suc, ◌+◌, Bool, true, false, List, [], ◌∷◌, ◌++◌, Option, Some, None, refl, sym, ap, ◌∙◌, subst}
use Rattle.std.specs.Prelude.{codes}
use Rattle.chan_values.specs.declared.error_code.ErrorCode.{ErrorCode}
use Rattle.chan_values.specs.declared.error_code.ErrorCode.TheVariants.{E9}
use Rattle.chan_values.specs.declared.key.Key.{Key}
use Rattle.chan_values.specs.declared.message.Message.{Message}
use Rattle.chan_values.specs.declared.place.Place.{Place}
use Rattle.field_observers.specs.declared.target.Target.{Target}
use Rattle.field_observers.specs.declared.target.Target.TheVariants as target
use Rattle.field_observers.specs.declared.target.Registration.{Registration}
use Rattle.node_tree.specs.Nodes.{changed}
use Rattle.trace_report.specs.declared.entry.EntryName.TheVariants.{Post}
use Rattle.chan_values.specs.Folded.{folded}
use Rattle.chan_values.specs.Tree.{Boolean, Words, Leaf}
use Rattle.message_ports.specs.Messages.{messages_of, with_messages}
use Rattle.focus_keys.specs.KeyText.{text_of}
use Rattle.brs_meaning.specs.Program.{Function, scoped, heading}
use Rattle.brs_meaning.specs.Reduction.{home_of}
use Rattle.brs_meaning.specs.Answering.{Reply, Value, Failed, Arguments, Values, Message', Put, Done, Refused, put}
use Rattle.world_meaning.specs.Channel.{Channel, function_at, function_of_node}
use Rattle.world_meaning.specs.Labels.{Label, Posts, Answers, Delivers, Takes}
use Rattle.world_meaning.specs.Core as k
use Rattle.world_meaning.specs.Core.{Entry, LastEntry, name_of, names, Closing, Hands, Begun, Next, Answer, Another, EntryEnd, Agenda, Deliveries, Inits, Called, Actor, Core, Moved, moved, followed, actor_at, change_actor, with_agendas, posts_of, tree_of_actor, store_of_actor, homes_of_actor, waiting_calls}
use Rattle.world_meaning.specs.Ending.{with_state, handed_if, handed, ended, end_actor, with_post, post_entry, post_last, fail, fail_where, leave, with_closing, close, is_idle_first, answered_at, answer, refused_at, refuse}
use Rattle.world_meaning.specs.Agendas.{Left, Came, TooLarge, untaken, settled, settle, settle_with, returned, takes, visited, finished, finish, topped, call_on_top, deliver_to, deliver, call_handler, invalid, yes}
use Rattle.channel_meaning.specs.History as l
use Rattle.channel_meaning.specs.History.{Line, Change, Walk, History, said, answer_newest, change_newest, with_taken, recorded, record_all}
use Rattle.channel_laws.specs.Laws.{talks, Phase, Free}
use Rattle.channel_laws.specs.Rule.{working, Zipped, AreDelivered, Walked, name_of_begun, Holds, Rule}
use Rattle.channel_laws.proofs.Lists.{scan_more, get_changed, names_append}
use Rattle.channel_laws.proofs.Changes.{answered_one, left_one}
use Rattle.channel_laws.proofs.Walks.{taken_walk, refused_walk, untaken_walk}
use Rattle.channel_laws.proofs.Acts.{IsQuiet, FreeNow, quiet, actors_change, first_changes, over_changes, deliver_act, post_act}

abbrev pub Keeps : Moved → History → Type 0
Keeps m h = Rule m.core (record_all m.labels h)

-- the rule of a core, with other agendas
abbrev pub With : List Agenda → Core → History → Type 0
With G c h = Holds c.actors (names c.inbox) (name_of_begun c.begun) G h

record_both : (xs ys : List Label) (h : History) → record_all (xs ++ ys) h ≡ record_all ys (record_all xs h)
record_both [] ys h = refl
record_both (x ∷ xs) ys h = record_both xs ys (recorded x h)

pub followed_keeps : (m : Moved) (f : Core → Moved) (h : History) → Keeps m h → ((g : History) → Rule m.core g → Keeps (f m.core) g) → Keeps (followed m f) h
followed_keeps m f h r next = subst (Rule (f m.core).core) (sym (record_both m.labels (f m.core).labels h)) (next (record_all m.labels h) r)

pub followed_at : (m : Moved) (f : Core → Moved) (h : History) → Keeps (f m.core) (record_all m.labels h) → Keeps (followed m f) h
followed_at m f h i = subst (Rule (f m.core).core) (sym (record_both m.labels (f m.core).labels h)) i

-- ---- lines and fields that no law speaks of

pub quiet_print : (a : ℕ) (t : List ℕ) → IsQuiet (l.Printed a t)
quiet_print a t = record { aside = λ b. record { talk = λ p. refl; begin = λ i. refl; drop = λ i. refl }; turn = λ s. refl; begin = refl; drop = refl; notify = refl; follow = λ s. (None, refl) }

pub quiet_fail : (a : ℕ) (e : ErrorCode) (at : Place) → IsQuiet (l.Failed a e at)
quiet_fail a e at = record { aside = λ b. record { talk = λ p. refl; begin = λ i. refl; drop = λ i. refl }; turn = λ s. refl; begin = refl; drop = refl; notify = refl; follow = λ s. (None, refl) }

pub quiet_return : (a : ℕ) → IsQuiet (l.Returned a)
quiet_return a = record { aside = λ b. record { talk = λ p. refl; begin = λ i. refl; drop = λ i. refl }; turn = λ s. refl; begin = refl; drop = refl; notify = refl; follow = λ s. (None, refl) }

pub quiet_start : (a n : ℕ) → IsQuiet (l.Started a n)
quiet_start a n = record { aside = λ b. record { talk = λ p. refl; begin = λ i. refl; drop = λ i. refl }; turn = λ s. refl; begin = refl; drop = refl; notify = refl; follow = λ s. (None, refl) }

pub quiet_stop : (a : ℕ) → IsQuiet (l.Stopped a)
quiet_stop a = record { aside = λ b. record { talk = λ p. refl; begin = λ i. refl; drop = λ i. refl }; turn = λ s. refl; begin = refl; drop = refl; notify = refl; follow = λ s. (Some a, refl) }

quiet_visit : (key : Key) (press : Bool) (n : ℕ) (taken : Bool) → IsQuiet (l.Visited key press n taken)
quiet_visit key press n taken = record { aside = λ b. record { talk = λ p. refl; begin = λ i. refl; drop = λ i. refl }; turn = λ s. refl; begin = refl; drop = refl; notify = refl; follow = λ s. (None, refl) }

pub quiet_here : (x : Line) (G : List Agenda) (c : Core) (h : History) → IsQuiet x → With G c h → With G c (said x h)
quiet_here x G c h q r = quiet x c.actors c.actors (names c.inbox) (name_of_begun c.begun) G h q (λ b p _ i. i) r

pub walks_change : (walks : List Walk) (G H : List Agenda) (c : Core) (h : History) → ((cs : List Change) → Zipped G cs → Zipped H cs) → Walked H (name_of_begun c.begun) walks → With G c h → With H c (record h { walks = walks })
walks_change walks G H c h z w r = record {
  actor = r.actor;
  entries = r.entries;
  deliveries = record { zipped = z h.unanswered r.deliveries.zipped; waiting = r.deliveries.waiting; all = r.deliveries.all; count = r.deliveries.count };
  walks = w;
}

pub with_agenda : (G H : List Agenda) (c : Core) (h : History) → ((cs : List Change) → Zipped G cs → Zipped H cs) → (Walked G (name_of_begun c.begun) h.walks → Walked H (name_of_begun c.begun) h.walks) → With G c h → With H c h
with_agenda G H c h z w r = record {
  actor = r.actor;
  entries = r.entries;
  deliveries = record { zipped = z h.unanswered r.deliveries.zipped; waiting = r.deliveries.waiting; all = r.deliveries.all; count = r.deliveries.count };
  walks = w r.walks;
}

-- ---- actors

pub first_actor : (f : Actor → Actor) (G : List Agenda) (c : Core) (h : History) → With G c h → With G (change_actor 0 f c) h
first_actor f G c h r = actors_change c.actors (changed f c.actors 0) (names c.inbox) (name_of_begun c.begun) G h (λ b p _. first_changes f c.actors b p) r

pub posts_handed : (reply : Reply) (x : Actor) → (handed reply x).posts ≡ x.posts
posts_handed reply x = go x.live
  where
    go : (b : Bool) → (handed_if b reply x).posts ≡ x.posts
    go true = refl
    go false = refl

same_begun : (closing : Closing) (o : Option Begun) → name_of_begun (with_closing closing o) ≡ name_of_begun o
same_begun closing None = refl
same_begun closing (Some b) = refl

pub close_keeps : (closing : Closing) (G : List Agenda) (c : Core) (h : History) → With G c h → With G (close closing c) h
close_keeps closing G c h r = subst (λ e. Holds c.actors (names c.inbox) e G h) (sym (same_begun closing c.begun)) r

answered_keeps : (idle : Bool) (reply : Reply) (c : Core) (h : History) → Rule c h → Rule (answered_at idle reply c) h
answered_keeps true reply c h r = close_keeps (Hands reply) c.agendas c h r
answered_keeps false reply c h r = first_actor (handed reply) c.agendas c h r

pub answer_keeps : (reply : Reply) (c : Core) (h : History) → Rule c h → Rule (answer reply c) h
answer_keeps reply c h r = answered_keeps (is_idle_first c) reply c h r

pub fail_first : (e : ErrorCode) (at : Place) (c : Core) (h : History) → Rule c h → Keeps (fail 0 e at c) h
fail_first e at c h r = quiet (l.Failed 0 e at) c.actors (changed ended c.actors 0) (names c.inbox) (name_of_begun c.begun) c.agendas h (quiet_fail 0 e at) (λ b p _. first_changes ended c.actors b p) r

pub fail_first_where : (e : ErrorCode) (o : Option Place) (c : Core) (h : History) → Rule c h → Keeps (fail_where 0 e o c) h
fail_first_where e None c h r = r
fail_first_where e (Some at) c h r = fail_first e at c h r

refused_keeps : (idle : Bool) (e : ErrorCode) (at : Option Place) (c : Core) (h : History) → Rule c h → Keeps (refused_at idle e at c) h
refused_keeps true e at c h r = close_keeps (Hands (Failed e)) c.agendas c h r
refused_keeps false e at c h r = fail_first_where e at c h r

pub refuse_keeps : (e : ErrorCode) (at : Option Place) (c : Core) (h : History) → Rule c h → Keeps (refuse e at c) h
refuse_keeps e at c h r = refused_keeps (is_idle_first c) e at c h r

-- ---- posts

pub post_keeps : (b : ℕ) (e : Entry) (c : Core) (h : History) (x : Actor) → name_of e ≡ Post (suc b) (posts_of (actor_at c (suc b)) + 1) → actor_at c (suc b) ≡ Some x → working (Some (with_post x)) ≡ false → FreeNow (suc b) h.trace → Rule c h → Keeps (post_entry (suc b) (posts_of (actor_at c (suc b)) + 1) e c) h
post_keeps b e c h x en ex idle free r =
    let posts : posts_of (actor_at c (suc b)) + 1 ≡ x.posts + 1 = ap (λ o. posts_of o + 1) ex in
    subst (λ ns. Holds (changed with_post c.actors (suc b)) ns (name_of_begun c.begun) c.agendas (recorded (Posts (suc b) (posts_of (actor_at c (suc b)) + 1)) h)) (sym (names_append c.inbox (e ∷ [])))
    (subst (λ n. Holds (changed with_post c.actors (suc b)) (names c.inbox ++ n ∷ []) (name_of_begun c.begun) c.agendas (recorded (Posts (suc b) (posts_of (actor_at c (suc b)) + 1)) h)) (sym en)
    (subst (λ i. Holds (changed with_post c.actors (suc b)) (names c.inbox ++ Post (suc b) i ∷ []) (name_of_begun c.begun) c.agendas (recorded (Posts (suc b) i) h)) (sym posts)
    (post_act b with_post c.actors (names c.inbox) (name_of_begun c.begun) c.agendas h x ex refl idle free r)))

pub free_said : (a : ℕ) (x : Line) (t : List Line) → ((p : Phase) → talks a x p ≡ Some p) → FreeNow a t → FreeNow a (t ++ x ∷ [])
free_said a x t q free = (free.0, scan_more (talks a) x t (Free 0) (Free free.0) free.1 ∙ q (Free free.0))

-- an actor from 2 on ends, with a line, and its last entry comes
last_keeps : (b : ℕ) (done : Bool) (x : Line) (c : Core) (h : History) (y : Actor) → IsQuiet x → actor_at c (suc b) ≡ Some y → FreeNow (suc b) h.trace → Rule c h → Keeps (post_last (suc b) done (end_actor (suc b) c)) (said x h)
last_keeps b done x c h y q ey free r =
    post_keeps b (LastEntry (suc b) (posts_of (actor_at (end_actor (suc b) c) (suc b)) + 1) done) (end_actor (suc b) c) (said x h) (ended y) refl (get_changed ended c.actors (suc b) y ey) refl
    (free_said (suc b) x h.trace (λ p. (q.aside (suc b)).talk p) free)
    (quiet x c.actors (changed ended c.actors (suc b)) (names c.inbox) (name_of_begun c.begun) c.agendas h q (λ a p _. over_changes ended c.actors (suc b) (λ z. refl) (λ z. refl) a p) r)

over_keeps : (a : ℕ) (x : Line) (c : Core) (h : History) → IsQuiet x → Rule c h → Rule (end_actor a c) (said x h)
over_keeps a x c h q r = quiet x c.actors (changed ended c.actors a) (names c.inbox) (name_of_begun c.begun) c.agendas h q (λ b p _. over_changes ended c.actors a (λ z. refl) (λ z. refl) b p) r

pub fail_keeps : (b : ℕ) (e : ErrorCode) (at : Place) (c : Core) (h : History) (y : Actor) → actor_at c (suc b) ≡ Some y → FreeNow (suc b) h.trace → Rule c h → Keeps (fail (suc b) e at c) h
fail_keeps zero e at c h y ey free r = over_keeps 1 (l.Failed 1 e at) c h (quiet_fail 1 e at) r
fail_keeps (suc b) e at c h y ey free r = last_keeps (suc b) false (l.Failed (suc (suc b)) e at) c h y (quiet_fail (suc (suc b)) e at) ey free r

pub fail_where_keeps : (b : ℕ) (e : ErrorCode) (o : Option Place) (c : Core) (h : History) (y : Actor) → actor_at c (suc b) ≡ Some y → FreeNow (suc b) h.trace → Rule c h → Keeps (fail_where (suc b) e o c) h
fail_where_keeps b e None c h y ey free r = r
fail_where_keeps b e (Some at) c h y ey free r = fail_keeps b e at c h y ey free r

pub leave_keeps : (b : ℕ) (c : Core) (h : History) (y : Actor) → actor_at c (suc b) ≡ Some y → FreeNow (suc b) h.trace → Rule c h → Keeps (leave (suc b) c) h
leave_keeps zero c h y ey free r = over_keeps 1 (l.Returned 1) c h (quiet_return 1) r
leave_keeps (suc b) c h y ey free r = last_keeps (suc b) true (l.Returned (suc (suc b))) c h y (quiet_return (suc (suc b))) ey free r

-- ---- a job is over

answered_agenda : (busy : Bool) (message : Message) (next : Next) (later : List Agenda) (cs : List Change) (c : Core) (h : History) → h.unanswered ≡ cs → With (Deliveries busy message [] next ∷ later) c h → With later c (answer_newest cs h)
answered_agenda busy message next later [] c h e r = absurd (subst (Zipped (Deliveries busy message [] next ∷ later)) e r.deliveries.zipped)
answered_agenda busy message next later (x ∷ cs) c h e r = record {
  actor = r.actor;
  entries = r.entries;
  walks = r.walks;
  deliveries = answered_one busy message next later h.answered x cs h.trace (subst (λ l. AreDelivered (Deliveries busy message [] next ∷ later) h.answered l h.trace) e r.deliveries);
}

last_agenda : (busy : Bool) (message : Message) (later : List Agenda) (c : Core) (h : History) → With (Deliveries busy message [] EntryEnd ∷ later) c h → With later c h
last_agenda busy message later c h r = go h.unanswered refl
  where
    go : (cs : List Change) → h.unanswered ≡ cs → With later c h
    go [] e = absurd (subst (Zipped (Deliveries busy message [] EntryEnd ∷ later)) e r.deliveries.zipped)
    go (x ∷ cs) e =
        let d : AreDelivered (Deliveries busy message [] EntryEnd ∷ later) h.answered (x ∷ cs) h.trace = subst (λ l. AreDelivered (Deliveries busy message [] EntryEnd ∷ later) h.answered l h.trace) e r.deliveries in
        let last : later ≡ [] = d.zipped.1 in
        let one : AreDelivered [] h.answered (x ∷ cs) h.trace = left_one busy message EntryEnd h.answered x cs h.trace (subst (λ g. AreDelivered (Deliveries busy message [] EntryEnd ∷ g) h.answered (x ∷ cs) h.trace) last d) in
        record {
          actor = r.actor;
          entries = r.entries;
          walks = r.walks;
          deliveries = subst (λ g. AreDelivered g h.answered h.unanswered h.trace) (sym last) (subst (λ l. AreDelivered [] h.answered l h.trace) (sym e) one);
        }

pub settled_keeps : (G : List Agenda) (c : Core) (h : History) → With G c h → Keeps (settled G (with_agendas G c)) h
settled_keeps [] c h r = r
settled_keeps (Deliveries true message left next ∷ later) c h r = r
settled_keeps (Deliveries false message (x ∷ left) next ∷ later) c h r = r
settled_keeps (Deliveries false message [] (Answer reply) ∷ later) c h r = answer_keeps reply (with_agendas later c) (answer_newest h.unanswered h) (answered_agenda false message (Answer reply) later h.unanswered c h refl r)
settled_keeps (Deliveries false message [] Another ∷ later) c h r =
    followed_keeps (moved (with_agendas later c) (Answers ∷ [])) (settled later) h (answered_agenda false message Another later h.unanswered c h refl r) (λ g k. settled_keeps later c g k)
settled_keeps (Deliveries false message [] EntryEnd ∷ later) c h r = answer_keeps (Value invalid) (with_agendas later c) h (last_agenda false message later c h r)
settled_keeps (Inits true left reply ∷ later) c h r = r
settled_keeps (Inits false (i ∷ left) reply ∷ later) c h r = r
settled_keeps (Inits false [] reply ∷ later) c h r = answer_keeps reply (with_agendas later c) h (with_agenda (Inits false [] reply ∷ later) later c h (λ cs z. z) (λ w. w) r)
settled_keeps (Called ∷ later) c h r = r
settled_keeps (k.Visits key press (Some n) left ∷ later) c h r = r
settled_keeps (k.Visits key press None (n ∷ left) ∷ later) c h r = r
settled_keeps (k.Visits key press None [] ∷ later) c h r = close_keeps (untaken key press) later (with_agendas later c) h (with_agenda (k.Visits key press None [] ∷ later) later c h (λ cs z. z) (untaken_walk key press later (name_of_begun c.begun) h.walks) r)

pub settle_keeps : (c : Core) (h : History) → Rule c h → Keeps (settle c) h
settle_keeps c h r = settled_keeps c.agendas c h r

returned_keeps : (v : Left) (c : Core) (h : History) → Rule c h → Keeps (returned v c) h
returned_keeps (Came v) c h r = answer_keeps (Value v) c h r
returned_keeps (TooLarge at) c h r = refuse_keeps E9 (Some at) c h r

visited_keeps : (taken : Bool) (key : Key) (press : Bool) (n : ℕ) (left : List ℕ) (later : List Agenda) (c : Core) (h : History) → With (k.Visits key press (Some n) left ∷ later) c h → Keeps (visited taken key press n left later (with_agendas (k.Visits key press (Some n) left ∷ later) c)) h
visited_keeps true key press n left later c h r =
    close_keeps (Hands (Value yes)) later (with_agendas later c) (recorded (Takes key press n true) h)
    (quiet_here (l.Visited key press n true) later c (record h { walks = change_newest (with_taken true) h.walks }) (quiet_visit key press n true)
    (walks_change (change_newest (with_taken true) h.walks) (k.Visits key press (Some n) left ∷ later) later c h (λ cs z. z) (taken_walk key press n left later (name_of_begun c.begun) h.walks r.walks) r))
visited_keeps false key press n left later c h r =
    followed_at (moved (with_agendas (k.Visits key press (Some n) left ∷ later) c) (Takes key press n false ∷ [])) (settle_with (k.Visits key press None left ∷ later)) h
    (settled_keeps (k.Visits key press None left ∷ later) c (recorded (Takes key press n false) h) (quiet_here (l.Visited key press n false) (k.Visits key press None left ∷ later) c (record h { walks = change_newest (with_taken false) h.walks }) (quiet_visit key press n false)
    (walks_change (change_newest (with_taken false) h.walks) (k.Visits key press (Some n) left ∷ later) (k.Visits key press None left ∷ later) c h (λ cs z. z) (refused_walk key press n left later (name_of_begun c.begun) h.walks r.walks) r)))

pub busy_same : (busy now : Bool) (message : Message) (left : List Registration) (next : Next) (later : List Agenda) (cs : List Change) → Zipped (Deliveries busy message left next ∷ later) cs → Zipped (Deliveries now message left next ∷ later) cs
busy_same busy now message left next later [] z = z
busy_same busy now message left next later (c ∷ cs) z = z

pub finished_keeps : (v : Left) (G : List Agenda) (c : Core) (h : History) → With G c h → Keeps (finished v G (with_agendas G c)) h
finished_keeps v [] c h r = r
finished_keeps v (Deliveries busy message left next ∷ later) c h r = settled_keeps (Deliveries false message left next ∷ later) c h (with_agenda (Deliveries busy message left next ∷ later) (Deliveries false message left next ∷ later) c h (busy_same busy false message left next later) (λ w. w) r)
finished_keeps v (Inits busy left reply ∷ later) c h r = settled_keeps (Inits false left reply ∷ later) c h (with_agenda (Inits busy left reply ∷ later) (Inits false left reply ∷ later) c h (λ cs z. z) (λ w. w) r)
finished_keeps v (Called ∷ later) c h r = returned_keeps v (with_agendas later c) h (with_agenda (Called ∷ later) later c h (λ cs z. z) (λ w. w) r)
finished_keeps v (k.Visits key press (Some n) left ∷ later) c h r = visited_keeps (takes v) key press n left later c h r
finished_keeps v (k.Visits key press None left ∷ later) c h r = r

pub finish_keeps : (v : Left) (c : Core) (h : History) → Rule c h → Keeps (finish v c) h
finish_keeps v c h r = finished_keeps v c.agendas c h r

-- ---- a job begins

topped_keeps : (f : Function) (p : Put) (c : Core) (h : History) → Rule c h → Keeps (topped f p c) h
topped_keeps f (Done s) c h r = first_actor (with_state s) c.agendas c h r
topped_keeps f (Refused e) c h r = fail_first e (heading f) c h r

pub call_keeps : (o : Option Function) (home : ℕ) (arguments : Arguments) (c : Core) (h : History) → Rule c h → Keeps (call_on_top o home arguments c) h
call_keeps None home arguments c h r = finish_keeps (Came invalid) c h r
call_keeps (Some f) home arguments c h r = topped_keeps f (put f home (homes_of_actor (actor_at c 0)) arguments (waiting_calls (tree_of_actor (actor_at c 0))) (store_of_actor (actor_at c 0))) c h r

deliver_to_keeps : (ch : Channel) (message : Message) (to : Target) (c : Core) (h : History) → Rule c h → Keeps (deliver_to ch message to c) h
deliver_to_keeps ch message (target.Function home name) c h r = call_keeps (function_at ch (scoped ch.program (home_of (homes_of_actor (actor_at c 0)) home).scope (folded name))) home (Message' message) c h r
deliver_to_keeps ch message (target.Port port) c h r = finish_keeps (Came invalid) (record c { ports = with_messages c.ports port (messages_of c.ports port ++ message ∷ []) }) h r

pub deliver_keeps : (ch : Channel) (message : Message) (x : Registration) (left : List Registration) (next : Next) (later : List Agenda) (c : Core) (h : History) → With (Deliveries false message (x ∷ left) next ∷ later) c h → Keeps (deliver ch message x (with_agendas (Deliveries true message left next ∷ later) c)) h
deliver_keeps ch message x left next later c h r =
    followed_keeps (moved (with_agendas (Deliveries true message left next ∷ later) c) (Delivers message.node message.field x ∷ [])) (deliver_to ch message x.target) h
    (deliver_act message x left next later c.actors (names c.inbox) (name_of_begun c.begun) h r)
    (λ g k. deliver_to_keeps ch message x.target (with_agendas (Deliveries true message left next ∷ later) c) g k)

pub visit_keeps : (ch : Channel) (key : Key) (press : Bool) (n : ℕ) (home : Option ℕ) (c : Core) (h : History) → Rule c h → Keeps (call_handler ch key press n home c) h
visit_keeps ch key press n None c h r = finish_keeps (Came invalid) c h r
visit_keeps ch key press n (Some home) c h r = call_keeps (function_at ch (function_of_node ch c.nodes n (codes "onkeyevent"))) home (Values (Leaf (Words (text_of key)) ∷ Leaf (Boolean press) ∷ [])) c h r
