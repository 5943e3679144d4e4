-- Moments are events of the smallest kind, and each run comes to its last world over moments.
use Rattle.std.proofs.Common.{◌≡◌, ℕ, zero, suc, ◌+◌, ◌≤◌, ◌<◌, Bool, true, false, List, [], ◌∷◌, ◌++◌, Option, Some, None, refl, sym, ap, ◌∙◌, subst, arith}
use Rattle.std.specs.Prelude.{length, nat_lt}
use Rattle.std.proofs.lemmas.Bool.{ltb-true, ltb-false, lt-ltb, le-ltb}
use Rattle.chan_values.specs.declared.event.Event.{Event}
use Rattle.chan_values.specs.declared.event.Event.TheVariants as event
use Rattle.world_meaning.specs.Channel.{Channel}
use Rattle.world_meaning.specs.Core.{Moved}
use Rattle.world_meaning.specs.Steps.{step}
use Rattle.channel_meaning.specs.World.{World, stepped, turned, turned_if, turn, turns_from, happens, after, run, opening}
use Rattle.run_laws.specs.Moments.{Moment, Steps, RunsOut, KeyComes, Expires, Leads, here, onward}

module _ (ch : Channel) (bound : ℕ) where
  -- ---- moments as events

  pub record IsEvents (w v : World) : Type 0 where
    pub events : List Event
    pub is : after ch bound events w ≡ v

  -- a turn of one step
  one_step : (actor : ℕ) (m : Moved) (w : World) (b : Bool) → step ch actor w.core ≡ Some m → nat_lt w.steps bound ≡ b → happens ch bound (event.Turn actor 1) w ≡ turned b (λ v. v) m w
  one_step actor m w b e l = ap (λ o. turned_if bound (λ v. v) o w) e ∙ ap (λ t. turned t (λ v. v) m w) l

  moment_event : (w v : World) → Moment ch bound w v → (e : Event) × (happens ch bound e w ≡ v)
  moment_event w v (Steps actor m e less is) = (event.Turn actor 1, one_step actor m w true e (lt-ltb w.steps bound less) ∙ sym is)
  moment_event w v (RunsOut actor m e most is) = (event.Turn actor 1, one_step actor m w false e (le-ltb w.steps bound most) ∙ sym is)
  moment_event w v (KeyComes key press is) = (event.Key key press, sym is)
  moment_event w v (Expires actor is) = (event.Expire actor, sym is)

  after_both : (events more : List Event) (w : World) → after ch bound (events ++ more) w ≡ after ch bound more (after ch bound events w)
  after_both [] more w = refl
  after_both (e ∷ events) more w = after_both events more (happens ch bound e w)

  pub leads_events : (w v : World) → Leads ch bound w v → IsEvents w v
  leads_events w _ here = record { events = []; is = refl }
  leads_events w u (onward {v = v} l m) =
      let before : IsEvents w v = leads_events w v l in
      let e = moment_event v u m in
      record { events = before.events ++ e.0 ∷ []; is = after_both before.events (e.0 ∷ []) w ∙ ap (happens ch bound e.0) before.is ∙ e.1 }

  -- ---- runs over moments

  leads_on : (w v u : World) → Leads ch bound w v → Leads ch bound v u → Leads ch bound w u
  leads_on w v _ l here = l
  leads_on w v u (l) (onward {v = x} k m) = onward (leads_on w v x l k) m

  one_moment : (w v : World) → Moment ch bound w v → Leads ch bound w v
  one_moment w v m = onward here m

  turn_leads : (actor n : ℕ) (w : World) → Leads ch bound w (turn ch bound actor n w)
  turn_leads actor zero w = here
  turn_leads actor (suc n) w = at_step (turn_leads actor n) (step ch actor w.core) refl
    where
      by_bound : ((v : World) → Leads ch bound v (turn ch bound actor n v)) → (m : Moved) → step ch actor w.core ≡ Some m → (b : Bool) → nat_lt w.steps bound ≡ b → Leads ch bound w (turned b (turn ch bound actor n) m w)
      by_bound ih m e true l = leads_on w (stepped m w) (turn ch bound actor n (stepped m w)) (one_moment w (stepped m w) (Steps actor m e (ltb-true w.steps bound l) refl)) (ih (stepped m w))
      by_bound ih m e false l = one_moment w (turned false (turn ch bound actor n) m w) (RunsOut actor m e (ltb-false w.steps bound l) refl)

      at_step : ((v : World) → Leads ch bound v (turn ch bound actor n v)) → (o : Option Moved) → step ch actor w.core ≡ o → Leads ch bound w (turned_if bound (turn ch bound actor n) o w)
      at_step ih None e = here
      at_step ih (Some m) e = by_bound ih m e (nat_lt w.steps bound) refl

  turns_lead : (n actor count : ℕ) (w : World) → Leads ch bound w (turns_from ch bound n actor count w)
  turns_lead n actor zero w = here
  turns_lead n actor (suc count) w = leads_on w (turn ch bound actor n w) (turns_from ch bound n actor (suc count) w) (turn_leads actor n w) (turns_lead n (actor + 1) count (turn ch bound actor n w))

  happens_leads : (e : Event) (w : World) → Leads ch bound w (happens ch bound e w)
  happens_leads (event.Key key press) w = one_moment w (happens ch bound (event.Key key press) w) (KeyComes key press refl)
  happens_leads (event.Turn actor n) w = turn_leads actor n w
  happens_leads (event.Round n) w = turns_lead n 0 (length w.core.actors) w
  happens_leads (event.Expire actor) w = one_moment w (happens ch bound (event.Expire actor) w) (Expires actor refl)

  after_leads : (events : List Event) (w : World) → Leads ch bound w (after ch bound events w)
  after_leads [] w = here
  after_leads (e ∷ events) w = leads_on w (happens ch bound e w) (after ch bound events (happens ch bound e w)) (happens_leads e w) (after_leads events (happens ch bound e w))

  pub run_leads : (events : List Event) → Leads ch bound (opening ch) (run ch bound events)
  run_leads events = after_leads events (opening ch)
