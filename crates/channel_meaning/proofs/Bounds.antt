-- The bound on steps, and the end of a run.
use Rattle.std.proofs.Common.{◌≡◌, ℕ, zero, suc, ◌+◌, ◌≤◌, Bool, true, false, List, [], ◌∷◌, Option, Some, None, refl, ap, ◌∙◌, arith}
use Rattle.std.specs.Prelude.{length, nat_lt}
use Rattle.std.proofs.lemmas.Bool.{ltb-true}
use Rattle.chan_values.specs.declared.end_reason.EndReason.{EndReason}
use Rattle.chan_values.specs.declared.event.Event.{Event}
use Rattle.chan_values.specs.declared.event.Event.TheVariants as event
use Rattle.chan_values.specs.declared.key.Key.{Key}
use Rattle.world_meaning.specs.Channel.{Channel}
use Rattle.world_meaning.specs.Core.{Moved}
use Rattle.world_meaning.specs.Steps.{step_running, step}
use Rattle.channel_meaning.specs.World.{World, stepped, turned, turned_if, turn, turns_from, key_comes, expire_running, happens, after, run, opening}

module _ (ch : Channel) (bound : ℕ) where
  turn_within : (a n : ℕ) (w : World) → w.steps ≤ bound → (turn ch bound a n w).steps ≤ bound
  turn_within a zero w h = h
  turn_within a (suc n) w h = at_step (turn_within a n) (step ch a w.core)
    where
      by_bound : ((v : World) → v.steps ≤ bound → (turn ch bound a n v).steps ≤ bound) → (m : Moved) (b : Bool) → nat_lt w.steps bound ≡ b → (turned b (turn ch bound a n) m w).steps ≤ bound
      by_bound ih m true e = ih (stepped m w) (let less = ltb-true w.steps bound e in omega (arith, less))
      by_bound ih m false e = h

      at_step : ((v : World) → v.steps ≤ bound → (turn ch bound a n v).steps ≤ bound) → (o : Option Moved) → (turned_if bound (turn ch bound a n) o w).steps ≤ bound
      at_step ih None = h
      at_step ih (Some m) = by_bound ih m (nat_lt w.steps bound) refl

  turns_within : (n a count : ℕ) (w : World) → w.steps ≤ bound → (turns_from ch bound n a count w).steps ≤ bound
  turns_within n a zero w h = h
  turns_within n a (suc count) w h = turns_within n (a + 1) count (turn ch bound a n w) (turn_within a n w h)

  key_within : (o : Option EndReason) (key : Key) (press : Bool) (w : World) → w.steps ≤ bound → (key_comes o key press w).steps ≤ bound
  key_within (Some reason) key press w h = h
  key_within None key press w h = h

  happens_within : (e : Event) (w : World) → w.steps ≤ bound → (happens ch bound e w).steps ≤ bound
  happens_within (event.Key key press) w h = key_within w.core.ending key press w h
  happens_within (event.Turn a n) w h = turn_within a n w h
  happens_within (event.Round n) w h = turns_within n 0 (length w.core.actors) w h
  happens_within (event.Expire a) w h = h

  after_within : (events : List Event) (w : World) → w.steps ≤ bound → (after ch bound events w).steps ≤ bound
  after_within [] w h = h
  after_within (e ∷ events) w h = after_within events (happens ch bound e w) (happens_within e w h)

  pub run_within : (events : List Event) → (run ch bound events).steps ≤ bound
  run_within events = after_within events (opening ch) (omega arith)

  -- ---- the end

  turn_over : (a n : ℕ) (w : World) (reason : EndReason) → w.core.ending ≡ Some reason → turn ch bound a n w ≡ w
  turn_over a zero w reason e = refl
  turn_over a (suc n) w reason e = ap (λ o. turned_if bound (turn ch bound a n) (step_running o ch a w.core) w) e

  turns_over : (n a count : ℕ) (w : World) (reason : EndReason) → w.core.ending ≡ Some reason → turns_from ch bound n a count w ≡ w
  turns_over n a zero w reason e = refl
  turns_over n a (suc count) w reason e = ap (turns_from ch bound n (a + 1) count) (turn_over a n w reason e) ∙ turns_over n (a + 1) count w reason e

  pub happens_over : (e : Event) (w : World) (reason : EndReason) → w.core.ending ≡ Some reason → happens ch bound e w ≡ w
  happens_over (event.Key key press) w reason e = ap (λ o. key_comes o key press w) e
  happens_over (event.Turn a n) w reason e = turn_over a n w reason e
  happens_over (event.Round n) w reason e = turns_over n 0 (length w.core.actors) w reason e
  happens_over (event.Expire a) w reason e = ap (λ o. record w { core = expire_running o ch a w.core }) e
