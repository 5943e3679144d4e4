-- What events leave within the bounds.
use Rattle.std.specs.Prelude.{slice_get, length, nat_lt, if◌then◌else◌, ◌≤◌}
use Rattle.brs_meaning.specs.Reduction.{reduce}
use Rattle.brs_meaning.specs.Program.{Function}
use Rattle.brs_meaning.specs.Answering.{Reply, Value, state, next_wait}
use Rattle.world_meaning.specs.Channel.{Channel, function_at, main_of}
use Rattle.world_meaning.specs.Core.{Actor, Core, Moved, actor_at, change_actor, posts_of}
use Rattle.std.proofs.Common.{◌≡◌, ℕ, zero, suc, ◌+◌, Bool, true, false, [], ◌∷◌, Option, Some, None, refl, subst, arith}
use Rattle.chan_values.specs.declared.end_reason.EndReason.{EndReason}
use Rattle.chan_values.specs.declared.key.Key.{Key}
use Rattle.message_ports.specs.Messages.{messages_of}
use Rattle.world_meaning.specs.Ending.{with_state, hand}
use Rattle.world_meaning.specs.Agendas.{invalid}
use Rattle.world_meaning.specs.Steps.{step, is_empty}
use Rattle.channel_meaning.specs.World.{World, stepped, turned, turned_if, turn, turns_from, round, key_comes, without_wait, expire_at, expire_actor, expire_running, expire, happens, first_actor, main_actor}
use Rattle.step_laws.specs.Counts.{IsWithin, IfWithin, IsCounted, OpeningCounts}
use Rattle.chan_values.specs.declared.event.Event.{Event}
use Rattle.step_laws.proofs.CountingPlaces.{actor_within}
use Rattle.step_laws.proofs.CountingSteps.{hand_within, step_counts}
use Rattle.chan_values.specs.declared.event.Event.TheVariants as event

-- ---- events

hands_within : (n a : ℕ) (f : Actor → Actor) (reply : Reply) (c : Core) → ((x : Actor) → (f x).posts ≡ x.posts) → IsWithin n c → IsWithin n (hand a reply (change_actor a f c))
hands_within n a f reply c same w = hand_within n a reply (change_actor a f c) (actor_within n a f c same w)

expire_at_within : (n : ℕ) (ch : Channel) (a : ℕ) (x : Actor) (o : Option (ℕ × Bool)) (c : Core) → IsWithin n c → IsWithin n (expire_at ch a x o c)
expire_at_within n ch a x None c w = w
expire_at_within n ch a x (Some wait) c w = by_wait wait.1 (is_empty (messages_of c.ports wait.0))
  where
    by_wait : (one other : Bool) → IsWithin n (if one then (if other then without_wait ch a x c else c) else c)
    by_wait true true = hands_within n a (with_state (state (reduce ch.program a x.homes x.tree x.store).tree (reduce ch.program a x.homes x.tree x.store).store)) (Value invalid) c (λ y. refl) w
    by_wait true false = w
    by_wait false other = w

expire_actor_within : (n : ℕ) (ch : Channel) (a : ℕ) (o : Option Actor) (c : Core) → IsWithin n c → IsWithin n (expire_actor ch a o c)
expire_actor_within n ch zero o c w = w
expire_actor_within n ch (suc b) None c w = w
expire_actor_within n ch (suc b) (Some x) c w = by_live x.live
  where
    by_live : (l : Bool) → IsWithin n (if l then expire_at ch (suc b) x (next_wait ch.program (suc b) x.homes x.tree x.store) c else c)
    by_live true = expire_at_within n ch (suc b) x (next_wait ch.program (suc b) x.homes x.tree x.store) c w
    by_live false = w

expire_within : (n : ℕ) (o : Option EndReason) (ch : Channel) (a : ℕ) (c : Core) → IsWithin n c → IsWithin n (expire_running o ch a c)
expire_within n (Some reason) ch a c w = w
expire_within n None ch a c w = expire_actor_within n ch a (actor_at c a) c w

plus_one : (n : ℕ) → suc n ≡ n + 1
plus_one n = omega arith

module _ (ch : Channel) (bound events : ℕ) where
  turn_counts : (a n : ℕ) (w : World) → IsCounted events w → IsCounted events (turn ch bound a n w)
  turn_counts a zero w i = i
  turn_counts a (suc n) w i = at_step (turn_counts a n) (step ch a w.core) (step_counts ch a w.steps w.core i.within)
    where
      by_bound : ((v : World) → IsCounted events v → IsCounted events (turn ch bound a n v)) → (m : Moved) (b : Bool) → IsWithin (suc w.steps) m.core → IsCounted events (turned b (turn ch bound a n) m w)
      by_bound ih m true h = ih (stepped m w) (record { within = subst (λ k. IsWithin k m.core) (plus_one w.steps) h; few_keys = i.few_keys })
      by_bound ih m false h = record { within = i.within; few_keys = i.few_keys }

      at_step : ((v : World) → IsCounted events v → IsCounted events (turn ch bound a n v)) → (o : Option Moved) → IfWithin (suc w.steps) o → IsCounted events (turned_if bound (turn ch bound a n) o w)
      at_step ih None h = i
      at_step ih (Some m) h = by_bound ih m (nat_lt w.steps bound) h

  turns_count : (n a count : ℕ) (w : World) → IsCounted events w → IsCounted events (turns_from ch bound n a count w)
  turns_count n a zero w i = i
  turns_count n a (suc count) w i = turns_count n (a + 1) count (turn ch bound a n w) (turn_counts a n w i)

  one_more : (w : World) → IsCounted events w → IsCounted (suc events) w
  one_more w i = record { within = i.within; few_keys = let h = i.few_keys in omega (arith, h) }

  key_counts : (o : Option EndReason) (key : Key) (press : Bool) (w : World) → IsCounted events w → IsCounted (suc events) (key_comes o key press w)
  key_counts (Some reason) key press w i = one_more w i
  key_counts None key press w i = record { within = i.within; few_keys = let h = i.few_keys in omega (arith, h) }

  pub event_counts : (e : Event) (w : World) → IsCounted events w → IsCounted (suc events) (happens ch bound e w)
  event_counts (event.Key key press) w i = key_counts w.core.ending key press w i
  event_counts (event.Turn a n) w i = one_more (turn ch bound a n w) (turn_counts a n w i)
  event_counts (event.Round n) w i = one_more (round ch bound n w) (turns_count n 0 (length w.core.actors) w i)
  event_counts (event.Expire a) w i = one_more (expire ch a w) (record { within = expire_within w.steps w.core.ending ch a w.core i.within; few_keys = i.few_keys })

opening_posts : (ch : Channel) (o : Option Function) → posts_of (Some (main_actor ch o)) ≤ 0
opening_posts ch None = omega arith
opening_posts ch (Some f) = omega arith

all_opening_posts : (ch : Channel) (a : ℕ) → posts_of (slice_get (first_actor ∷ main_actor ch (function_at ch (main_of ch)) ∷ []) a) ≤ 0
all_opening_posts ch zero = omega arith
all_opening_posts ch (suc zero) = opening_posts ch (function_at ch (main_of ch))
all_opening_posts ch (suc (suc a)) = omega arith

pub opening_counts : OpeningCounts
opening_counts ch = record {
  within = record { few_nodes = omega arith; few_ports = omega arith; few_actors = omega arith; few_posts = all_opening_posts ch };
  few_keys = omega arith;
}
