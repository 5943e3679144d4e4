-- An owner changes only to render: events.
use Rattle.std.specs.Prelude.{length, nat_lt, if◌then◌else◌}
use Rattle.brs_meaning.specs.Reduction.{reduce}
use Rattle.brs_meaning.specs.Answering.{Reply, Value, state, next_wait}
use Rattle.world_meaning.specs.Channel.{Channel}
use Rattle.world_meaning.specs.Core.{Actor, Core, Moved, actor_at, change_actor}
use Rattle.std.proofs.Common.{◌≡◌, ℕ, zero, suc, ◌+◌, Bool, true, false, Option, Some, None, refl, inr, List}
use Rattle.chan_values.specs.declared.end_reason.EndReason.{EndReason}
use Rattle.chan_values.specs.declared.key.Key.{Key}
use Rattle.message_ports.specs.Messages.{messages_of}
use Rattle.world_meaning.specs.Ending.{with_state, hand}
use Rattle.world_meaning.specs.Agendas.{invalid}
use Rattle.world_meaning.specs.Steps.{step, is_empty}
use Rattle.channel_meaning.specs.World.{World, stepped, turned, turned_if, turn, turns_from, key_comes, without_wait, expire_at, expire_actor, expire_running, happens}
use Rattle.chan_values.specs.declared.event.Event.{Event}
use Rattle.chan_values.specs.declared.event.Event.TheVariants as event
use Rattle.step_laws.proofs.OwningPlaces.{IfSince, Since, actor_since}
use Rattle.step_laws.proofs.OwningSteps.{hand_since, step_since}
use Rattle.step_laws.specs.Owners.{IfOwners, StepOwners, EventOwners}
use Rattle.node_tree.specs.declared.node.Node.{Node}
use Rattle.node_tree.specs.Owned.{OnlyToRender}

-- ---- events

hands_since : (base : List Node) (a : ℕ) (f : Actor → Actor) (reply : Reply) (c : Core) → ((x : Actor) → (f x).posts ≡ x.posts) → Since base c → Since base (hand a reply (change_actor a f c))
hands_since base a f reply c same w = hand_since base a reply (change_actor a f c) (actor_since base a f c same w)

expire_at_since : (base : List Node) (ch : Channel) (a : ℕ) (x : Actor) (o : Option (ℕ × Bool)) (c : Core) → Since base c → Since base (expire_at ch a x o c)
expire_at_since base ch a x None c w = w
expire_at_since base ch a x (Some wait) c w = by_wait wait.1 (is_empty (messages_of c.ports wait.0))
  where
    by_wait : (one other : Bool) → Since base (if one then (if other then without_wait ch a x c else c) else c)
    by_wait true true = hands_since base a (with_state (state (reduce ch.program a x.homes x.tree x.store).tree (reduce ch.program a x.homes x.tree x.store).store)) (Value invalid) c (λ y. refl) w
    by_wait true false = w
    by_wait false other = w

expire_actor_since : (base : List Node) (ch : Channel) (a : ℕ) (o : Option Actor) (c : Core) → Since base c → Since base (expire_actor ch a o c)
expire_actor_since base ch zero o c w = w
expire_actor_since base ch (suc b) None c w = w
expire_actor_since base ch (suc b) (Some x) c w = by_live x.live
  where
    by_live : (l : Bool) → Since base (if l then expire_at ch (suc b) x (next_wait ch.program (suc b) x.homes x.tree x.store) c else c)
    by_live true = expire_at_since base ch (suc b) x (next_wait ch.program (suc b) x.homes x.tree x.store) c w
    by_live false = w

expire_since : (base : List Node) (o : Option EndReason) (ch : Channel) (a : ℕ) (c : Core) → Since base c → Since base (expire_running o ch a c)
expire_since base (Some reason) ch a c w = w
expire_since base None ch a c w = expire_actor_since base ch a (actor_at c a) c w

module _ (ch : Channel) (bound : ℕ) (base : List Node) where
  turn_since : (a n : ℕ) (w : World) → Since base w.core → Since base (turn ch bound a n w).core
  turn_since a zero w i = i
  turn_since a (suc n) w i = at_step (turn_since a n) (step ch a w.core) (step_since base ch a w.core i)
    where
      by_bound : ((v : World) → Since base v.core → Since base (turn ch bound a n v).core) → (m : Moved) (b : Bool) → Since base m.core → Since base (turned b (turn ch bound a n) m w).core
      by_bound ih m true h = ih (stepped m w) h
      by_bound ih m false h = i

      at_step : ((v : World) → Since base v.core → Since base (turn ch bound a n v).core) → (o : Option Moved) → IfSince base o → Since base (turned_if bound (turn ch bound a n) o w).core
      at_step ih None h = i
      at_step ih (Some m) h = by_bound ih m (nat_lt w.steps bound) h

  turns_since : (n a count : ℕ) (w : World) → Since base w.core → Since base (turns_from ch bound n a count w).core
  turns_since n a zero w i = i
  turns_since n a (suc count) w i = turns_since n (a + 1) count (turn ch bound a n w) (turn_since a n w i)

  key_since : (o : Option EndReason) (key : Key) (press : Bool) (w : World) → Since base w.core → Since base (key_comes o key press w).core
  key_since (Some reason) key press w i = i
  key_since None key press w i = i

  happens_since : (e : Event) (w : World) → Since base w.core → Since base (happens ch bound e w).core
  happens_since (event.Key key press) w i = key_since w.core.ending key press w i
  happens_since (event.Turn a n) w i = turn_since a n w i
  happens_since (event.Round n) w i = turns_since n 0 (length w.core.actors) w i
  happens_since (event.Expire a) w i = expire_since base w.core.ending ch a w.core i

unchanged : (nodes : List Node) → OnlyToRender nodes nodes
unchanged nodes n a e = inr e

pub step_owners : StepOwners
step_owners ch a c = go (step ch a c) (step_since c.nodes ch a c (unchanged c.nodes))
  where
    go : (o : Option Moved) → IfSince c.nodes o → IfOwners c o
    go None h = tt
    go (Some m) h = h

pub event_owners : EventOwners
event_owners ch bound e w = happens_since ch bound w.core.nodes e w (unchanged w.core.nodes)
