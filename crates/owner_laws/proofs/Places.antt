-- The rule of owners where one place of the world changes.
use Rattle.std.proofs.Common.{◌≡◌, ℕ, zero, suc, Bool, true, false, List, [], ◌∷◌, ◌++◌, Option, Some, None, refl, sym, ap, ◌∙◌, subst, inl, inr, ◌⊎◌}
use Rattle.std.specs.Prelude.{◌==◌, ◌||◌, slice_get, option_map}
use Rattle.std.proofs.lemmas.Bool.{eqb-true, eq-eqb}
use Rattle.chan_values.specs.declared.message.Message.{Message}
use Rattle.heap_meaning.specs.Store.{Store}
use Rattle.field_observers.specs.InTime.{Observer}
use Rattle.node_tree.specs.declared.node.Node.{Node}
use Rattle.node_tree.specs.Nodes.{node_at, owner_of, changed}
use Rattle.node_tree.specs.Family.{is}
use Rattle.node_tree.specs.Owned.{Of, OnlyToRender, AreNodesOwned}
use Rattle.node_tree.proofs.Reached.{or_left, or_right, either}
use Rattle.brs_meaning.specs.Program.{Program, Function}
use Rattle.brs_meaning.specs.Locals.{Home}
use Rattle.brs_meaning.specs.Running as t
use Rattle.brs_meaning.specs.Running.{Held}
use Rattle.brs_meaning.specs.Reduction.{Reduced, reduce}
use Rattle.brs_meaning.specs.Answering.{Reply, Arguments, Put, State, replied, put}
use Rattle.brs_meaning.specs.NodeLaws.{In, StepNames, AnswerNames, CallOnTopNames}
use Rattle.brs_meaning.specs.Nodes.{Each, IfSome, MessageNames, StoreNames, HomesName, HeldNames, CallsName, StateNames, ReducedNames, ReplyNames, ArgumentsName, PutNames}
use Rattle.world_meaning.specs.Core as k
use Rattle.world_meaning.specs.Core.{Entry, KeyEntry, AccessEntry, LastEntry, Closing, Hands, GoesBack, Begun, Next, Answer, Another, EntryEnd, Agenda, Deliveries, Inits, Called, Actor, Core, actor_at, change_actor, with_agendas}
use Rattle.owner_laws.specs.Owners.{IsActorOwned, IsEntryOwned, IsNextOwned, IsAgendaOwned, IsClosingOwned, Owned, Owners}
use Rattle.owner_laws.proofs.Naming.{each_to, some_to, message_more, store_more, homes_more, held_more, calls_more, access_more, outcome_more, reply_more, arguments_more, put_more}

-- ---- owners

pub of_render : (a : ℕ) (nodes : List Node) (n : ℕ) → Of 0 nodes n → Of a nodes n
of_render a nodes n (inl e) = inl e
of_render a nodes n (inr e) = inl e

pub render_is : (nodes : List Node) (n : ℕ) → Of 0 nodes n → owner_of nodes n ≡ Some 0
render_is nodes n (inl e) = e
render_is nodes n (inr e) = e

pub of_more : (before after : List Node) → OnlyToRender before after → (a n : ℕ) → Of a before n → Of a after n
of_more before after g a n (inl e) = of_render a after n (g n 0 e)
of_more before after g a n (inr e) = g n a e

pub same_owners : (before after : List Node) → ((n : ℕ) → owner_of after n ≡ owner_of before n) → OnlyToRender before after
same_owners before after same n a e = inr (same n ∙ e)

-- ---- nodes as a test

abbrev pub may : ℕ → List Node → ℕ → Bool
may a nodes n = is 0 (owner_of nodes n) || is a (owner_of nodes n)

is_some : (p : ℕ) (o : Option ℕ) → o ≡ Some p → is p o ≡ true
is_some p None e = absurd cc
is_some p (Some q) e = eq-eqb q p (inside e)
  where
    inside : Some q ≡ Some p → q ≡ p
    inside f = cc

pub some_is : (p : ℕ) (o : Option ℕ) → is p o ≡ true → o ≡ Some p
some_is p None e = absurd cc
some_is p (Some q) e = ap Some (eqb-true q p e)

of_in : (a : ℕ) (nodes : List Node) (n : ℕ) → Of a nodes n → In (may a nodes) n
of_in a nodes n (inl e) = or_left (is 0 (owner_of nodes n)) (is a (owner_of nodes n)) (is_some 0 (owner_of nodes n) e)
of_in a nodes n (inr e) = or_right (is 0 (owner_of nodes n)) (is a (owner_of nodes n)) (is_some a (owner_of nodes n) e)

in_of : (a : ℕ) (nodes : List Node) (n : ℕ) → In (may a nodes) n → Of a nodes n
in_of a nodes n e = go (either (is 0 (owner_of nodes n)) (is a (owner_of nodes n)) e)
  where
    go : (is 0 (owner_of nodes n) ≡ true) ⊎ (is a (owner_of nodes n) ≡ true) → Of a nodes n
    go (inl f) = inl (some_is 0 (owner_of nodes n) f)
    go (inr f) = inr (some_is a (owner_of nodes n) f)

-- ---- what an actor does by itself

module _ (a : ℕ) (nodes : List Node) where
  pub step_owned : StepNames → (p : Program) (homes : List Home) (tree : t.Tree) (store : Store) → owner_of nodes 1 ≡ Some 0 → HomesName (Of a nodes) homes → CallsName (Of a nodes) tree → StoreNames (Of a nodes) store → ReducedNames (Of a nodes) (reduce p a homes tree store)
  step_owned steps p homes tree store global h c s =
      let to : (n : ℕ) → Of a nodes n → In (may a nodes) n = of_in a nodes in
      let from : (n : ℕ) → In (may a nodes) n → Of a nodes n = in_of a nodes in
      let r = steps (may a nodes) p a homes tree store (to 1 (inl global)) (homes_more (Of a nodes) (In (may a nodes)) to homes h) (calls_more (Of a nodes) (In (may a nodes)) to tree c) (store_more (Of a nodes) (In (may a nodes)) to store s) in
      let x : Reduced = reduce p a homes tree store in
      (outcome_more (In (may a nodes)) (Of a nodes) from x.outcome r.0, calls_more (In (may a nodes)) (Of a nodes) from x.tree r.1, store_more (In (may a nodes)) (Of a nodes) from x.store r.2)

  pub reply_owned : AnswerNames → (reply : Reply) (tree : t.Tree) (store : Store) → ReplyNames (Of a nodes) reply → CallsName (Of a nodes) tree → StoreNames (Of a nodes) store → StateNames (Of a nodes) (replied reply tree store)
  reply_owned answers reply tree store h c s =
      let to : (n : ℕ) → Of a nodes n → In (may a nodes) n = of_in a nodes in
      let from : (n : ℕ) → In (may a nodes) n → Of a nodes n = in_of a nodes in
      let r = answers (may a nodes) reply tree store (reply_more (Of a nodes) (In (may a nodes)) to reply h) (calls_more (Of a nodes) (In (may a nodes)) to tree c) (store_more (Of a nodes) (In (may a nodes)) to store s) in
      let x : State = replied reply tree store in
      (calls_more (In (may a nodes)) (Of a nodes) from x.tree r.0, store_more (In (may a nodes)) (Of a nodes) from x.store r.1)

  pub put_owned : CallOnTopNames → (f : Function) (home : ℕ) (homes : List Home) (arguments : Arguments) (below : List Held) (store : Store) → ArgumentsName (Of a nodes) arguments → HomesName (Of a nodes) homes → Each (HeldNames (Of a nodes)) below → StoreNames (Of a nodes) store → PutNames (Of a nodes) (put f home homes arguments below store)
  put_owned calls f home homes arguments below store g h b s =
      let to : (n : ℕ) → Of a nodes n → In (may a nodes) n = of_in a nodes in
      let from : (n : ℕ) → In (may a nodes) n → Of a nodes n = in_of a nodes in
      put_more (In (may a nodes)) (Of a nodes) from (put f home homes arguments below store)
      (calls (may a nodes) f home homes arguments below store (arguments_more (Of a nodes) (In (may a nodes)) to arguments g) (homes_more (Of a nodes) (In (may a nodes)) to homes h) (held_more (Of a nodes) (In (may a nodes)) to below b) (store_more (Of a nodes) (In (may a nodes)) to store s))

-- ---- the nodes change: all that may be named may be named still

module _ (before after : List Node) (g : OnlyToRender before after) where
  of_after : (a n : ℕ) → Of a before n → Of a after n
  of_after a n o = of_more before after g a n o

  actor_after : (a : ℕ) (x : Actor) → IsActorOwned before a x → IsActorOwned after a x
  actor_after a x h = record {
    calls = calls_more (Of a before) (Of a after) (of_after a) x.tree h.calls;
    store = store_more (Of a before) (Of a after) (of_after a) x.store h.store;
    homes = homes_more (Of a before) (Of a after) (of_after a) x.homes h.homes;
    task = some_to (Of 0 before) (Of 0 after) (of_after 0) x.node h.task;
  }

  entry_after : (e : Entry) → IsEntryOwned before e → IsEntryOwned after e
  entry_after (KeyEntry number key press) h = tt
  entry_after (AccessEntry a number access) h = access_more (Of a before) (Of a after) (of_after a) access h
  entry_after (LastEntry a number returned) h = tt

  message_after : (m : Message) → MessageNames (Of 0 before) m → MessageNames (Of 0 after) m
  message_after m h = message_more (Of 0 before) (Of 0 after) (of_after 0) m h

  reply_after : (reply : Reply) → ReplyNames (Of 0 before) reply → ReplyNames (Of 0 after) reply
  reply_after reply h = reply_more (Of 0 before) (Of 0 after) (of_after 0) reply h

  next_after : (x : Next) → IsNextOwned before x → IsNextOwned after x
  next_after (Answer reply) h = reply_after reply h
  next_after Another h = tt
  next_after EntryEnd h = tt

  agenda_after : (x : Agenda) → IsAgendaOwned before x → IsAgendaOwned after x
  agenda_after (Deliveries busy message left next) h = (message_after message h.0, next_after next h.1)
  agenda_after (Inits busy left reply) h = reply_after reply h
  agenda_after Called h = tt
  agenda_after (k.Visits key press at_work left) h = (some_to (Of 0 before) (Of 0 after) (of_after 0) at_work h.0, each_to (Of 0 before) (Of 0 after) (of_after 0) left h.1)

  closing_after : (x : Closing) → IsClosingOwned before x → IsClosingOwned after x
  closing_after (Hands reply) h = reply_after reply h
  closing_after GoesBack h = tt

  begun_after : (b : Begun) → IfSome (IsClosingOwned before) b.closing → IfSome (IsClosingOwned after) b.closing
  begun_after b h = some_to (IsClosingOwned before) (IsClosingOwned after) closing_after b.closing h

  messages_after : (ms : List Message) → Each (MessageNames (Of 0 before)) ms → Each (MessageNames (Of 0 after)) ms
  messages_after ms h = each_to (MessageNames (Of 0 before)) (MessageNames (Of 0 after)) message_after ms h

pub nodes_change : (c : Core) (after : List Node) → OnlyToRender c.nodes after → AreNodesOwned after → Owners c → Owners (record c { nodes = after })
nodes_change c after g owned r = record {
  kin_and_fields = owned;
  global = render_is after 1 (g 1 0 r.global);
  registered = each_to (λ o. Of 0 c.nodes o.node) (λ o. Of 0 after o.node) (λ o. of_more c.nodes after g 0 o.node) c.observers r.registered;
  messages = each_to (Each (MessageNames (Of 0 c.nodes))) (Each (MessageNames (Of 0 after))) (messages_after c.nodes after g) c.ports r.messages;
  focused = some_to (Of 0 c.nodes) (Of 0 after) (of_more c.nodes after g 0) c.focus r.focused;
  entries = each_to (IsEntryOwned c.nodes) (IsEntryOwned after) (entry_after c.nodes after g) c.inbox r.entries;
  actor = λ a. some_to (IsActorOwned c.nodes a) (IsActorOwned after a) (actor_after c.nodes after g a) (slice_get c.actors a) (r.actor a);
  at_home = each_to (Of 0 c.nodes) (Of 0 after) (of_more c.nodes after g 0) c.homes r.at_home;
  jobs = each_to (IsAgendaOwned c.nodes) (IsAgendaOwned after) (agenda_after c.nodes after g) c.agendas r.jobs;
  answer = some_to (λ b. IfSome (IsClosingOwned c.nodes) b.closing) (λ b. IfSome (IsClosingOwned after) b.closing) (begun_after c.nodes after g) c.begun r.answer;
}

-- ---- one actor changes

at_changed : (P : ℕ → Actor → Type 0) (f : Actor → Actor) (xs : List Actor) (i : ℕ) → ((x : Actor) → slice_get xs i ≡ Some x → P i x → P i (f x)) → ((j : ℕ) → IfSome (P j) (slice_get xs j)) → (j : ℕ) → IfSome (P j) (slice_get (changed f xs i) j)
at_changed P f [] i h k j = k j
at_changed P f (x ∷ xs) zero h k zero = h x refl (k zero)
at_changed P f (x ∷ xs) zero h k (suc j) = k (suc j)
at_changed P f (x ∷ xs) (suc i) h k zero = k zero
at_changed P f (x ∷ xs) (suc i) h k (suc j) = at_changed (λ n. P (suc n)) f xs i h (λ n. k (suc n)) j

pub actor_change : (c : Core) (a : ℕ) (f : Actor → Actor) → ((x : Actor) → slice_get c.actors a ≡ Some x → IsActorOwned c.nodes a x → IsActorOwned c.nodes a (f x)) → Owners c → Owners (change_actor a f c)
actor_change c a f h r = record {
  kin_and_fields = r.kin_and_fields;
  global = r.global;
  registered = r.registered;
  messages = r.messages;
  focused = r.focused;
  entries = r.entries;
  actor = at_changed (IsActorOwned c.nodes) f c.actors a h r.actor;
  at_home = r.at_home;
  jobs = r.jobs;
  answer = r.answer;
}

-- ---- other places change

pub with_jobs : (c : Core) (agendas : List Agenda) → Each (IsAgendaOwned c.nodes) agendas → Owners c → Owners (with_agendas agendas c)
with_jobs c agendas h r = record { kin_and_fields = r.kin_and_fields; global = r.global; registered = r.registered; messages = r.messages; focused = r.focused; entries = r.entries; actor = r.actor; at_home = r.at_home; jobs = h; answer = r.answer }

pub with_ports : (c : Core) (ports : List (List Message)) → Each (Each (MessageNames (Of 0 c.nodes))) ports → Owners c → Owners (record c { ports = ports })
with_ports c ports h r = record { kin_and_fields = r.kin_and_fields; global = r.global; registered = r.registered; messages = h; focused = r.focused; entries = r.entries; actor = r.actor; at_home = r.at_home; jobs = r.jobs; answer = r.answer }

pub with_inbox : (c : Core) (inbox : List Entry) → Each (IsEntryOwned c.nodes) inbox → Owners c → Owners (record c { inbox = inbox })
with_inbox c inbox h r = record { kin_and_fields = r.kin_and_fields; global = r.global; registered = r.registered; messages = r.messages; focused = r.focused; entries = h; actor = r.actor; at_home = r.at_home; jobs = r.jobs; answer = r.answer }

pub with_begun : (c : Core) (o : Option Begun) → IfSome (λ b. IfSome (IsClosingOwned c.nodes) b.closing) o → Owners c → Owners (record c { begun = o })
with_begun c o h r = record { kin_and_fields = r.kin_and_fields; global = r.global; registered = r.registered; messages = r.messages; focused = r.focused; entries = r.entries; actor = r.actor; at_home = r.at_home; jobs = r.jobs; answer = h }

pub with_observers : (c : Core) (observers : List Observer) → Each (λ o. Of 0 c.nodes o.node) observers → Owners c → Owners (record c { observers = observers })
with_observers c observers h r = record { kin_and_fields = r.kin_and_fields; global = r.global; registered = h; messages = r.messages; focused = r.focused; entries = r.entries; actor = r.actor; at_home = r.at_home; jobs = r.jobs; answer = r.answer }

pub with_focus : (c : Core) (o : Option ℕ) → IfSome (Of 0 c.nodes) o → Owners c → Owners (record c { focus = o })
with_focus c o h r = record { kin_and_fields = r.kin_and_fields; global = r.global; registered = r.registered; messages = r.messages; focused = h; entries = r.entries; actor = r.actor; at_home = r.at_home; jobs = r.jobs; answer = r.answer }

-- one more actor, which holds nodes of render alone
push_owned : (P : ℕ → Actor → Type 0) (xs : List Actor) (y : Actor) → ((i : ℕ) → P i y) → ((i : ℕ) → IfSome (P i) (slice_get xs i)) → (i : ℕ) → IfSome (P i) (slice_get (xs ++ y ∷ []) i)
push_owned P [] y h k zero = h zero
push_owned P [] y h k (suc i) = tt
push_owned P (x ∷ xs) y h k zero = k zero
push_owned P (x ∷ xs) y h k (suc i) = push_owned (λ n. P (suc n)) xs y (λ n. h (suc n)) (λ n. k (suc n)) i

pub with_actor : (c : Core) (y : Actor) → ((i : ℕ) → IsActorOwned c.nodes i y) → Owners c → Owners (record c { actors = c.actors ++ y ∷ [] })
with_actor c y h r = record { kin_and_fields = r.kin_and_fields; global = r.global; registered = r.registered; messages = r.messages; focused = r.focused; entries = r.entries; actor = push_owned (IsActorOwned c.nodes) c.actors y h r.actor; at_home = r.at_home; jobs = r.jobs; answer = r.answer }
