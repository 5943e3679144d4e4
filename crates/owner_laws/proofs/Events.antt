-- Opening worlds and events keep the rule of owners.
use Rattle.std.proofs.Common.{◌≡◌, ℕ, zero, suc, ◌+◌, Bool, true, false, List, [], ◌∷◌, ◌++◌, Option, Some, None, refl, sym, ap, ◌∙◌, subst, inl, inr, length}
use Rattle.std.specs.Prelude.{slice_get, nat_lt, if◌then◌else◌}
use Rattle.std.specs.List.{AllByRecursion}
use Rattle.chan_values.specs.declared.end_reason.EndReason.{EndReason}
use Rattle.chan_values.specs.declared.event.Event.{Event}
use Rattle.chan_values.specs.declared.event.Event.TheVariants as event
use Rattle.chan_values.specs.declared.key.Key.{Key}
use Rattle.field_types.specs.Plans.{IsPlanTable}
use Rattle.heap_meaning.specs.Values.{Reference}
use Rattle.heap_meaning.specs.Store.{MapObject}
use Rattle.message_ports.specs.Messages.{messages_of}
use Rattle.node_tree.specs.declared.node.Node.{Node}
use Rattle.node_tree.specs.Nodes.{node_at, owner_of}
use Rattle.node_tree.specs.Making.{new_node}
use Rattle.node_tree.specs.Owned.{Of, IsNodeOwned, AreNodesOwned}
use Rattle.node_tree.proofs.MadeBounds.{new_names}
use Rattle.brs_meaning.specs.Program.{Function}
use Rattle.brs_meaning.specs.Reduction.{Reduced, reduce}
use Rattle.brs_meaning.specs.Answering.{Value, Start, state, next_wait}
use Rattle.brs_meaning.specs.NodeLaws.{StepNames, AnswerNames, CallOnTopNames}
use Rattle.brs_meaning.specs.Nodes.{Each, IfSome, ReducedNames}
use Rattle.world_meaning.specs.IsChannel.{IsChannel}
use Rattle.world_meaning.specs.Channel.{Channel, function_at, main_of}
use Rattle.world_meaning.specs.Core.{KeyEntry, Actor, Core, Moved, actor_at, change_actor}
use Rattle.world_meaning.specs.Ending.{with_state, end_run}
use Rattle.world_meaning.specs.Agendas.{invalid}
use Rattle.world_meaning.specs.Steps.{step, put_back, is_empty}
use Rattle.channel_meaning.specs.World.{World, stepped, turned, turned_if, turn, turns_from, key_comes, without_wait, expire_at, expire_actor, expire_running, happens, first_actor, main_actor, opening}
use Rattle.owner_laws.specs.Owners.{IsActorOwned, IsEntryOwned, Owners, IfOwners, OpeningOwns, EventOwns}
use Rattle.owner_laws.proofs.Naming.{each_append}
use Rattle.owner_laws.proofs.Places.{step_owned, actor_change, with_inbox}
use Rattle.owner_laws.proofs.Jobs.{with_state_owned, hand_owned}
use Rattle.owner_laws.proofs.Changes.{started_owned}
use Rattle.owner_laws.proofs.Steps.{steps_own}

module _ (steps : StepNames) (answers : AnswerNames) (on_top : CallOnTopNames) (ch : Channel) (is : IsChannel ch) where
  -- ---- waits that expire

  without_wait_owned : (a : ℕ) (x : Actor) (c : Core) → actor_at c a ≡ Some x → Owners c → Owners (without_wait ch a x c)
  without_wait_owned a x c e r =
      let h : IsActorOwned c.nodes a x = subst (IfSome (IsActorOwned c.nodes a)) e (r.actor a) in
      let s : Reduced = reduce ch.program a x.homes x.tree x.store in
      let names : ReducedNames (Of a c.nodes) s = step_owned a c.nodes steps ch.program x.homes x.tree x.store r.global h.homes h.calls h.store in
      hand_owned answers a (Value invalid) (put_back a s c) tt (actor_change c a (with_state (state s.tree s.store)) (λ y g q. with_state_owned c a (state s.tree s.store) y (names.1, names.2) q) r)

  expire_at_owned : (a : ℕ) (x : Actor) (o : Option (ℕ × Bool)) (c : Core) → actor_at c a ≡ Some x → Owners c → Owners (expire_at ch a x o c)
  expire_at_owned a x None c e r = r
  expire_at_owned a x (Some wait) c e r = by_wait wait.1 (is_empty (messages_of c.ports wait.0))
    where
      by_wait : (one other : Bool) → Owners (if one then (if other then without_wait ch a x c else c) else c)
      by_wait true true = without_wait_owned a x c e r
      by_wait true false = r
      by_wait false other = r

  expire_actor_owned : (a : ℕ) (o : Option Actor) (c : Core) → actor_at c a ≡ o → Owners c → Owners (expire_actor ch a o c)
  expire_actor_owned zero o c e r = r
  expire_actor_owned (suc b) None c e r = r
  expire_actor_owned (suc b) (Some x) c e r = by_live x.live
    where
      by_live : (l : Bool) → Owners (if l then expire_at ch (suc b) x (next_wait ch.program (suc b) x.homes x.tree x.store) c else c)
      by_live true = expire_at_owned (suc b) x (next_wait ch.program (suc b) x.homes x.tree x.store) c e r
      by_live false = r

  expire_owned : (o : Option EndReason) (a : ℕ) (c : Core) → Owners c → Owners (expire_running o ch a c)
  expire_owned (Some reason) a c r = r
  expire_owned None a c r = expire_actor_owned a (actor_at c a) c refl r

  -- ---- events

  ends_owned : (reason : EndReason) (c : Core) → Owners c → Owners (end_run reason c)
  ends_owned reason c r = r

  turn_owned : (bound a n : ℕ) (w : World) → Owners w.core → Owners (turn ch bound a n w).core
  turn_owned bound a zero w r = r
  turn_owned bound a (suc n) w r = at_step (turn_owned bound a n) (step ch a w.core) (steps_own steps answers on_top ch is a w.core r)
    where
      by_bound : ((v : World) → Owners v.core → Owners (turn ch bound a n v).core) → (m : Moved) (b : Bool) → Owners m.core → Owners (turned b (turn ch bound a n) m w).core
      by_bound ih m true h = ih (stepped m w) h
      by_bound ih m false h = r

      at_step : ((v : World) → Owners v.core → Owners (turn ch bound a n v).core) → (o : Option Moved) → IfOwners o → Owners (turned_if bound (turn ch bound a n) o w).core
      at_step ih None h = r
      at_step ih (Some m) h = by_bound ih m (nat_lt w.steps bound) h

  turns_owned : (bound n a count : ℕ) (w : World) → Owners w.core → Owners (turns_from ch bound n a count w).core
  turns_owned bound n a zero w r = r
  turns_owned bound n a (suc count) w r = turns_owned bound n (a + 1) count (turn ch bound a n w) (turn_owned bound a n w r)

  key_owned : (o : Option EndReason) (button : Key) (press : Bool) (w : World) → Owners w.core → Owners (key_comes o button press w).core
  key_owned (Some reason) button press w r = r
  key_owned None button press w r = with_inbox w.core (w.core.inbox ++ KeyEntry (w.keys + 1) button press ∷ []) (each_append (IsEntryOwned w.core.nodes) w.core.inbox (KeyEntry (w.keys + 1) button press ∷ []) r.entries (tt, tt)) r

  event_owned : (bound : ℕ) (e : Event) (w : World) → Owners w.core → Owners (happens ch bound e w).core
  event_owned bound (event.Key button press) w r = key_owned w.core.ending button press w r
  event_owned bound (event.Turn a n) w r = turn_owned bound a n w r
  event_owned bound (event.Round n) w r = turns_owned bound n 0 (length w.core.actors) w r
  event_owned bound (event.Expire a) w r = expire_owned w.core.ending a w.core r

pub events_own : StepNames → AnswerNames → CallOnTopNames → EventOwns
events_own steps answers on_top ch is bound e w r = event_owned steps answers on_top ch is bound e w r

-- ---- the opening world

idle_owned : (nodes : List Node) (a : ℕ) (live : Bool) → IsActorOwned nodes a (record first_actor { live = live })
idle_owned nodes a live = record { calls = tt; store = tt; homes = tt; task = tt }

main_owned : CallOnTopNames → (ch : Channel) (nodes : List Node) (a : ℕ) (o : Option Function) → IsActorOwned nodes a (main_actor ch o)
main_owned on_top ch nodes a None = idle_owned nodes a false
main_owned on_top ch nodes a (Some f) = started_owned on_top nodes a f ch.source (Reference 0) (MapObject [] ∷ []) Start None (λ S. tt) tt (tt, tt) tt

some_same : {x y : Node} → Some x ≡ Some y → x ≡ y
some_same e = cc

one_owned : (ch : Channel) → IsPlanTable ch.plans → AreNodesOwned (new_node ch.plans 0 0 ∷ [])
one_owned ch table zero x e = absurd cc
one_owned ch table (suc zero) x e = subst (IsNodeOwned (new_node ch.plans 0 0 ∷ [])) (some_same e) (record { kin_of_one = tt; fields = new_names (Of 0 (new_node ch.plans 0 0 ∷ [])) ch.plans table 0 None 0 [] [] tt })
one_owned ch table (suc (suc n)) x e = absurd cc

pub opens_own : CallOnTopNames → OpeningOwns
opens_own on_top ch is = record {
  kin_and_fields = one_owned ch is.plans;
  global = refl;
  registered = tt;
  messages = tt;
  focused = tt;
  entries = tt;
  actor = each;
  at_home = tt;
  jobs = tt;
  answer = tt;
}
  where
    each : (a : ℕ) → IfSome (IsActorOwned (new_node ch.plans 0 0 ∷ []) a) (slice_get (first_actor ∷ main_actor ch (function_at ch (main_of ch)) ∷ []) a)
    each zero = idle_owned (new_node ch.plans 0 0 ∷ []) 0 true
    each (suc zero) = main_owned on_top ch (new_node ch.plans 0 0 ∷ []) 1 (function_at ch (main_of ch))
    each (suc (suc a)) = tt
