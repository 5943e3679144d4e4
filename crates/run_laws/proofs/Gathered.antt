-- The laws of runs and of events, at each moment of a run.
use Rattle.std.proofs.Common.{◌≡◌, ℕ, zero, suc, ◌+◌, ◌≤◌, ◌⊎◌, inl, inr, List, [], ◌∷◌, ◌++◌, Some, refl, sym, ap, ◌∙◌, subst, arith}
use Rattle.std.specs.Prelude.{length}
use Rattle.std.proofs.lemmas.List.{append_assoc, append-nil}
use Rattle.chan_values.specs.declared.event.Event.{Event}
use Rattle.node_tree.specs.declared.node.Node.{Node}
use Rattle.node_tree.specs.Nodes.{owner_of}
use Rattle.node_tree.specs.Owned.{Of, OnlyToRender}
use Rattle.world_meaning.specs.IsChannel.{IsChannel}
use Rattle.world_meaning.specs.Channel.{Channel}
use Rattle.world_meaning.specs.Core.{Core, names}
use Rattle.channel_meaning.specs.History.{History}
use Rattle.channel_meaning.specs.Going.{GoesOn}
use Rattle.channel_meaning.specs.World.{World, happens, after, run, opening}
use Rattle.channel_laws.specs.Rule.{Rule, EveryRun, EveryOpening, EveryEventKeeps}
use Rattle.step_laws.specs.Counts.{IsCounted, OpeningCounts, EventCounts}
use Rattle.step_laws.specs.Isolation.{EveryOtherStep}
use Rattle.step_laws.specs.Owners.{EventOwners}
use Rattle.owner_laws.specs.Owners.{Owners, OpeningOwns, EventOwns}
use Rattle.owner_laws.specs.Isolated.{OtherStepsLeaveNodes}
use Rattle.run_laws.specs.Moments.{Leads, IsPassed}
use Rattle.run_laws.specs.LawsOfRun.{HasWaiting, LawsAt, LawsBetween, LawsOfRun, EveryRunHasLaws}
use Rattle.run_laws.proofs.Events.{IsEvents, leads_events, run_leads}

-- ---- from world to world

same_history : (h : History) → GoesOn h h
same_history h = record { lines = []; trace = sym (append-nil h.trace); names = []; arrivals = sym (append-nil h.arrivals) }

goes_further : (g h i : History) → GoesOn g h → GoesOn h i → GoesOn g i
goes_further g h i p q = record {
  lines = p.lines ++ q.lines;
  trace = q.trace ∙ ap (λ l. l ++ q.lines) p.trace ∙ append_assoc g.trace p.lines q.lines;
  names = p.names ++ q.names;
  arrivals = q.arrivals ∙ ap (λ l. l ++ q.names) p.arrivals ∙ append_assoc g.arrivals p.names q.names;
}

same_owners : (nodes : List Node) → OnlyToRender nodes nodes
same_owners nodes n actor e = inr e

owners_further : (before between after : List Node) → OnlyToRender before between → OnlyToRender between after → OnlyToRender before after
owners_further before between after p q n actor e = go (p n actor e)
  where
    render : Of 0 after n → Of actor after n
    render (inl f) = inl f
    render (inr f) = inl f

    go : Of actor between n → Of actor after n
    go (inl f) = render (q n 0 f)
    go (inr f) = q n actor f

-- ---- over events

module _ (going : (ch : Channel) (bound : ℕ) (e : Event) (w : World) → GoesOn w.history (happens ch bound e w).history) (owning : EventOwners) (ch : Channel) (bound : ℕ) where
  between_events : (events : List Event) (w : World) → LawsBetween w (after ch bound events w)
  between_events [] w = record { goes_on = same_history w.history; owners = same_owners w.core.nodes }
  between_events (e ∷ events) w =
      let v : World = happens ch bound e w in
      let u : World = after ch bound events v in
      let rest : LawsBetween v u = between_events events v in
      record {
        goes_on = goes_further w.history v.history u.history (going ch bound e w) rest.goes_on;
        owners = owners_further w.core.nodes v.core.nodes u.core.nodes (owning ch bound e w) rest.owners;
      }

  pub between_worlds : (w v : World) → Leads ch bound w v → LawsBetween w v
  between_worlds w v l = let i : IsEvents ch bound w v = leads_events ch bound w v l in subst (LawsBetween w) i.is (between_events i.events w)

counted_by : (n m : ℕ) (w : World) → n ≡ m → IsCounted n w → IsCounted m w
counted_by n m w e h = subst (λ k. IsCounted k w) e h

after_counts : EventCounts → (ch : Channel) (bound n : ℕ) (events : List Event) (w : World) → IsCounted n w → IsCounted (length events + n) (after ch bound events w)
after_counts counting ch bound n [] w h = let same : n ≡ 0 + n = omega arith in counted_by n (0 + n) w same h
after_counts counting ch bound n (e ∷ events) w h =
    let v : World = happens ch bound e w in
    let same : length events + suc n ≡ length (e ∷ events) + n = omega arith in
    counted_by (length events + suc n) (length (e ∷ events) + n) (after ch bound events v) same (after_counts counting ch bound (suc n) events v (counting ch bound n e w h))

pub run_counts : OpeningCounts → EventCounts → (ch : Channel) (bound : ℕ) (events : List Event) → IsCounted (length events + 0) (run ch bound events)
run_counts opens counting ch bound events = after_counts counting ch bound 0 events (opening ch) (opens ch)

after_owned : EventOwns → (ch : Channel) → IsChannel ch → (bound : ℕ) (events : List Event) (w : World) → Owners w.core → Owners (after ch bound events w).core
after_owned owned ch is bound [] w h = h
after_owned owned ch is bound (e ∷ events) w h = after_owned owned ch is bound events (happens ch bound e w) (owned ch is bound e w h)

after_rule : EveryEventKeeps → (ch : Channel) (bound : ℕ) (events : List Event) (w : World) → Rule w.core w.history → Rule (after ch bound events w).core (after ch bound events w).history
after_rule keeps ch bound [] w h = h
after_rule keeps ch bound (e ∷ events) w h = after_rule keeps ch bound events (happens ch bound e w) (keeps ch bound e w h)

waiting_of : (c : Core) (h : History) → Rule c h → (b : ℕ) → HasWaiting (suc b) h.trace (names c.inbox)
waiting_of c h r b = let i = r.actor b in record { phase = i.phase; told = i.told; stands = i.queue }

-- ---- all laws

-- the laws that stand in the crates below
pub record Given : Type 0 where
  pub runs : EveryRun
  pub opens : EveryOpening
  pub keeps : EveryEventKeeps
  pub going : (ch : Channel) (bound : ℕ) (e : Event) (w : World) → GoesOn w.history (happens ch bound e w).history
  pub bounded : (ch : Channel) (bound : ℕ) (events : List Event) → (run ch bound events).steps ≤ bound
  pub opening_counts : OpeningCounts
  pub event_counts : EventCounts
  pub others : EveryOtherStep
  pub owning : EventOwners
  pub opening_owns : OpeningOwns
  pub event_owns : EventOwns
  pub others_nodes : OtherStepsLeaveNodes

laws_after : Given → (ch : Channel) → IsChannel ch → (bound : ℕ) (events : List Event) → LawsAt ch (run ch bound events)
laws_after g ch is bound events =
    let w : World = run ch bound events in
    let owners : Owners w.core = after_owned g.event_owns ch is bound events (opening ch) (g.opening_owns ch is) in
    record {
      history = g.runs ch bound events;
      waiting = waiting_of w.core w.history (after_rule g.keeps ch bound events (opening ch) (g.opens ch));
      owners = owners;
      within = (run_counts g.opening_counts g.event_counts ch bound events).within;
      other_steps = λ b. g.others ch b w.core;
      other_nodes = λ b. g.others_nodes ch b w.core owners.kin_and_fields;
    }

laws_at : Given → (ch : Channel) → IsChannel ch → (bound : ℕ) (w : World) → Leads ch bound (opening ch) w → LawsAt ch w
laws_at g ch is bound w l =
    let i : IsEvents ch bound (opening ch) w = leads_events ch bound (opening ch) w l in
    subst (LawsAt ch) i.is (laws_after g ch is bound i.events)

pub gathered : Given → EveryRunHasLaws
gathered g ch is bound events = record {
  comes = run_leads ch bound events;
  at = λ w p. laws_at g ch is bound w p.from;
  between = λ w v p l k. between_worlds g.going g.owning ch bound w v l;
  few_steps = g.bounded ch bound events;
  few_keys = let few = (run_counts g.opening_counts g.event_counts ch bound events).few_keys in omega (arith, few);
}
