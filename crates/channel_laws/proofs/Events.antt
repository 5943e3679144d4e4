-- Opening worlds, events and runs keep the rule, and the laws follow from it.
use Rattle.std.proofs.Common.{◌≡◌, ℕ, zero, suc, ◌+◌, Bool, true, false, List, [], ◌∷◌, ◌++◌, Option, Some, None, refl, sym, ap, ◌∙◌, subst}
use Rattle.std.specs.Prelude.{◌&&◌, slice_get, length, nat_lt, if◌then◌else◌}
use Rattle.std.proofs.lemmas.List.{append-nil}
use Rattle.chan_values.specs.declared.end_reason.EndReason.{EndReason}
use Rattle.chan_values.specs.declared.event.Event.{Event}
use Rattle.chan_values.specs.declared.event.Event.TheVariants as event
use Rattle.chan_values.specs.declared.key.Key.{Key}
use Rattle.message_ports.specs.Messages.{messages_of}
use Rattle.brs_meaning.specs.Program.{Function}
use Rattle.brs_meaning.specs.Running as t
use Rattle.brs_meaning.specs.Running.{Works, Waits}
use Rattle.brs_meaning.specs.Reduction.{Reduced, reduce}
use Rattle.brs_meaning.specs.Answering.{Value, state, is_at_work, next_wait}
use Rattle.world_meaning.specs.Channel.{Channel, function_at, main_of}
use Rattle.world_meaning.specs.Labels.{Comes}
use Rattle.world_meaning.specs.Core as k
use Rattle.world_meaning.specs.Core.{KeyEntry, names, Agenda, Deliveries, Inits, Called, Actor, Core, Moved, actor_at, posts_of}
use Rattle.world_meaning.specs.Ending.{with_state}
use Rattle.world_meaning.specs.Agendas.{invalid}
use Rattle.world_meaning.specs.Steps.{step, put_back, is_empty}
use Rattle.channel_meaning.specs.History.{Change, History, recorded}
use Rattle.channel_meaning.specs.World.{World, stepped, turned, turned_if, turn, turns_from, key_comes, without_wait, expire_at, expire_actor, expire_running, happens, first_actor, main_actor, opening, after, run}
use Rattle.channel_laws.specs.Laws.{Free, AllDelivered, Laws}
use Rattle.channel_laws.specs.Rule.{name_of_begun, AllPast, AllUnanswered, Zipped, Holds, Rule, IfMoved, EveryOpening, EveryRun}
use Rattle.channel_laws.proofs.Lists.{names_append}
use Rattle.channel_laws.proofs.Acts.{FreeNow, key_act}
use Rattle.channel_laws.proofs.Walks.{all_walked}
use Rattle.channel_laws.proofs.Steps.{own_actor, own_hand, free_now, step_keeps}

-- ---- waits that expire

at_work_where_it_waits : (ch : Channel) (a : ℕ) (x : Actor) (tree : t.Tree) (wait : ℕ × Bool) → next_wait ch.program a x.homes tree x.store ≡ Some wait → is_at_work tree ≡ true
at_work_where_it_waits ch a x (Works call spot tasks below) wait e = refl
at_work_where_it_waits ch a x (Waits below) wait e = cc

without_wait_keeps : (ch : Channel) (b : ℕ) (x : Actor) (c : Core) (h : History) → FreeNow (suc b) h.trace → Rule c h → Rule (without_wait ch (suc b) x c) h
without_wait_keeps ch b x c h free r =
    let s : Reduced = reduce ch.program (suc b) x.homes x.tree x.store in
    own_hand b (put_back (suc b) s c) h free (own_actor b c h free r (with_state (state s.tree s.store)) (λ y. refl)) (Value invalid)

expire_at_keeps : (ch : Channel) (b : ℕ) (x : Actor) (o : Option (ℕ × Bool)) (c : Core) (h : History) → actor_at c (suc b) ≡ Some x → x.live ≡ true → next_wait ch.program (suc b) x.homes x.tree x.store ≡ o → Rule c h → Rule (expire_at ch (suc b) x o c) h
expire_at_keeps ch b x None c h ex el eo r = r
expire_at_keeps ch b x (Some wait) c h ex el eo r = by_wait wait.1 (is_empty (messages_of c.ports wait.0))
  where
    free : FreeNow (suc b) h.trace
    free = free_now b x c h ex (ap (λ l. l && is_at_work x.tree) el ∙ at_work_where_it_waits ch (suc b) x x.tree wait eo) r

    by_wait : (one other : Bool) → Rule (if one then (if other then without_wait ch (suc b) x c else c) else c) h
    by_wait true true = without_wait_keeps ch b x c h free r
    by_wait true false = r
    by_wait false other = r

expire_actor_keeps : (ch : Channel) (a : ℕ) (o : Option Actor) (c : Core) (h : History) → actor_at c a ≡ o → Rule c h → Rule (expire_actor ch a o c) h
expire_actor_keeps ch zero o c h e r = r
expire_actor_keeps ch (suc b) None c h e r = r
expire_actor_keeps ch (suc b) (Some x) c h e r = by_live x.live refl
  where
    by_live : (l : Bool) → x.live ≡ l → Rule (if l then expire_at ch (suc b) x (next_wait ch.program (suc b) x.homes x.tree x.store) c else c) h
    by_live true el = expire_at_keeps ch b x (next_wait ch.program (suc b) x.homes x.tree x.store) c h e el refl r
    by_live false el = r

expire_keeps : (o : Option EndReason) (ch : Channel) (a : ℕ) (c : Core) (h : History) → Rule c h → Rule (expire_running o ch a c) h
expire_keeps (Some reason) ch a c h r = r
expire_keeps None ch a c h r = expire_actor_keeps ch a (actor_at c a) c h refl r

-- ---- events

module _ (ch : Channel) (bound : ℕ) where
  turn_keeps : (a n : ℕ) (w : World) → Rule w.core w.history → Rule (turn ch bound a n w).core (turn ch bound a n w).history
  turn_keeps a zero w r = r
  turn_keeps a (suc n) w r = at_step (turn_keeps a n) (step ch a w.core) (step_keeps ch a w.core w.history r)
    where
      by_bound : ((v : World) → Rule v.core v.history → Rule (turn ch bound a n v).core (turn ch bound a n v).history) → (m : Moved) (b : Bool) → IfMoved (Some m) w.history → Rule (turned b (turn ch bound a n) m w).core (turned b (turn ch bound a n) m w).history
      by_bound ih m true i = ih (stepped m w) i
      by_bound ih m false i = r

      at_step : ((v : World) → Rule v.core v.history → Rule (turn ch bound a n v).core (turn ch bound a n v).history) → (o : Option Moved) → IfMoved o w.history → Rule (turned_if bound (turn ch bound a n) o w).core (turned_if bound (turn ch bound a n) o w).history
      at_step ih None i = r
      at_step ih (Some m) i = by_bound ih m (nat_lt w.steps bound) i

  turns_keep : (n a count : ℕ) (w : World) → Rule w.core w.history → Rule (turns_from ch bound n a count w).core (turns_from ch bound n a count w).history
  turns_keep n a zero w r = r
  turns_keep n a (suc count) w r = turns_keep n (a + 1) count (turn ch bound a n w) (turn_keeps a n w r)

  key_keeps : (o : Option EndReason) (key : Key) (press : Bool) (w : World) → Rule w.core w.history → Rule (key_comes o key press w).core (key_comes o key press w).history
  key_keeps (Some reason) key press w r = r
  key_keeps None key press w r =
      subst (λ ns. Holds w.core.actors ns (name_of_begun w.core.begun) w.core.agendas (recorded (Comes (w.keys + 1)) w.history)) (sym (names_append w.core.inbox (KeyEntry (w.keys + 1) key press ∷ [])))
      (key_act (w.keys + 1) w.core.actors (names w.core.inbox) (name_of_begun w.core.begun) w.core.agendas w.history r)

  pub happens_keeps : (e : Event) (w : World) → Rule w.core w.history → Rule (happens ch bound e w).core (happens ch bound e w).history
  happens_keeps (event.Key key press) w r = key_keeps w.core.ending key press w r
  happens_keeps (event.Turn a n) w r = turn_keeps a n w r
  happens_keeps (event.Round n) w r = turns_keep n 0 (length w.core.actors) w r
  happens_keeps (event.Expire a) w r = expire_keeps w.core.ending ch a w.core w.history r

  after_keeps : (events : List Event) (w : World) → Rule w.core w.history → Rule (after ch bound events w).core (after ch bound events w).history
  after_keeps [] w r = r
  after_keeps (e ∷ events) w r = after_keeps events (happens ch bound e w) (happens_keeps e w r)

-- ---- the opening world

main_posts : (ch : Channel) (o : Option Function) → (main_actor ch o).posts ≡ 0
main_posts ch None = refl
main_posts ch (Some f) = refl

no_posts : (ch : Channel) (b : ℕ) → posts_of (slice_get (first_actor ∷ main_actor ch (function_at ch (main_of ch)) ∷ []) (suc b)) ≡ 0
no_posts ch zero = main_posts ch (function_at ch (main_of ch))
no_posts ch (suc b) = refl

pub opens : EveryOpening
opens ch = record {
  actor = λ b. record { phase = Free 0; told = refl; queue = refl; open_number = refl; is = record { posts = no_posts ch b; works = λ w. tt }; new_begin = λ i le. refl; new_drop = λ i le. refl };
  entries = record { order = refl; one = refl; no_key = λ i. refl; drops = (None, refl) };
  deliveries = record { zipped = tt; waiting = tt; all = tt; count = λ p. refl };
  walks = tt;
}

-- ---- the laws

past_delivered : (cs : List Change) → AllPast cs → AllDelivered cs
past_delivered [] h = tt
past_delivered (c ∷ cs) h = (([], append-nil c.begun ∙ h.0, λ e. h.0), past_delivered cs h.1)

waiting_delivered : (G : List Agenda) (cs : List Change) → Zipped G cs → AllUnanswered cs → AllDelivered cs
waiting_delivered [] cs z u = past_delivered cs z
waiting_delivered (Deliveries busy message left next ∷ later) [] z u = absurd z
waiting_delivered (Deliveries busy message left next ∷ later) (c ∷ cs) z u = ((left, z.0.rest, λ e. absurd (no (sym u.0 ∙ e))), waiting_delivered later cs z.2 u.1)
  where
    no : false ≡ true → ⊥
    no e = cc
waiting_delivered (Inits busy left reply ∷ later) cs z u = waiting_delivered later cs z u
waiting_delivered (Called ∷ later) cs z u = waiting_delivered later cs z u
waiting_delivered (k.Visits key press at_work left ∷ later) cs z u = waiting_delivered later cs z u

all_delivered : (past cs : List Change) → AllPast past → AllDelivered cs → AllDelivered (past ++ cs)
all_delivered [] cs h i = i
all_delivered (c ∷ past) cs h i = (([], append-nil c.begun ∙ h.0, λ e. h.0), all_delivered past cs h.1 i)

laws_hold : (c : Core) (h : History) → Rule c h → Laws h
laws_hold c h r = record {
  posts = λ b. let i = r.actor b in (i.phase, i.told);
  drops = r.entries.drops;
  entries = (names c.inbox, r.entries.order);
  one = record { open_entry = name_of_begun c.begun; turns = r.entries.one; walked = all_walked c.agendas (name_of_begun c.begun) h.walks r.walks };
  deliveries = all_delivered h.answered h.unanswered r.deliveries.all (waiting_delivered c.agendas h.unanswered r.deliveries.zipped r.deliveries.waiting);
  lines = r.deliveries.count;
}

pub every_run : EveryRun
every_run ch bound events =
    let w : World = run ch bound events in
    laws_hold w.core w.history (after_keeps ch bound events (opening ch) (opens ch))
