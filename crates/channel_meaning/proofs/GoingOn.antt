-- Nothing that was recorded is taken back.
use Rattle.std.proofs.Common.{◌≡◌, ℕ, zero, suc, ◌+◌, Bool, true, false, List, [], ◌∷◌, ◌++◌, Option, Some, None, refl, sym, ap, ◌∙◌}
use Rattle.std.specs.Prelude.{length, nat_lt, flat_map, unwrap_or}
use Rattle.std.proofs.lemmas.List.{append_assoc, append-nil}
use Rattle.std.proofs.lemmas.Grind.{flat_map-append}
use Rattle.chan_values.specs.declared.end_reason.EndReason.{EndReason}
use Rattle.chan_values.specs.declared.end_reason.EndReason.TheVariants as why
use Rattle.chan_values.specs.declared.event.Event.{Event}
use Rattle.chan_values.specs.declared.event.Event.TheVariants as event
use Rattle.chan_values.specs.declared.key.Key.{Key}
use Rattle.trace_report.specs.TraceText.{end_line}
use Rattle.world_meaning.specs.Channel.{Channel}
use Rattle.world_meaning.specs.Labels.{Label, Prints, Fails, Returns, Comes, Posts, Begins, Ends, Starts, Stops, Drops, Changes, Delivers, Answers, Walks, Visits, Takes}
use Rattle.world_meaning.specs.Core.{Moved}
use Rattle.world_meaning.specs.Steps.{step}
use Rattle.channel_meaning.specs.History.{Line, Change, History, answer_newest, recorded, record_all}
use Rattle.channel_meaning.specs.World.{World, stepped, turned, turned_if, turn, turns_from, key_comes, happens, after, run, opening}
use Rattle.channel_meaning.specs.Report.{report}
use Rattle.channel_meaning.specs.RunText.{line_text, trace_bytes, run_text}
use Rattle.channel_meaning.specs.Going.{GoesOn, BeginsWith}

same : (h : History) → GoesOn h h
same h = record { lines = []; trace = sym (append-nil h.trace); names = []; arrivals = sym (append-nil h.arrivals) }

then_on : (g h i : History) → GoesOn g h → GoesOn h i → GoesOn g i
then_on g h i p q = record {
  lines = p.lines ++ q.lines;
  trace = q.trace ∙ ap (λ l. l ++ q.lines) p.trace ∙ append_assoc g.trace p.lines q.lines;
  names = p.names ++ q.names;
  arrivals = q.arrivals ∙ ap (λ l. l ++ q.names) p.arrivals ∙ append_assoc g.arrivals p.names q.names;
}

line_more : (line : Line) (g h : History) → h.trace ≡ g.trace ++ line ∷ [] → h.arrivals ≡ g.arrivals → GoesOn g h
line_more line g h t a = record { lines = line ∷ []; trace = t; names = []; arrivals = a ∙ sym (append-nil g.arrivals) }

quiet : (g h : History) → h.trace ≡ g.trace → h.arrivals ≡ g.arrivals → GoesOn g h
quiet g h t a = record { lines = []; trace = t ∙ sym (append-nil g.trace); names = []; arrivals = a ∙ sym (append-nil g.arrivals) }

answered : (changes : List Change) (h : History) → GoesOn h (answer_newest changes h)
answered [] h = same h
answered (change ∷ changes) h = quiet h (answer_newest (change ∷ changes) h) refl refl

one_more : (label : Label) (h : History) → GoesOn h (recorded label h)
one_more (Prints a text) h = line_more _ h (recorded (Prints a text) h) refl refl
one_more (Fails a e at) h = line_more _ h (recorded (Fails a e at) h) refl refl
one_more (Returns a) h = line_more _ h (recorded (Returns a) h) refl refl
one_more (Comes i) h = record { lines = []; trace = sym (append-nil h.trace); names = _; arrivals = refl }
one_more (Posts a i) h = record { lines = _; trace = refl; names = _; arrivals = refl }
one_more (Begins name) h = line_more _ h (recorded (Begins name) h) refl refl
one_more (Ends name) h = line_more _ h (recorded (Ends name) h) refl refl
one_more (Starts a n) h = line_more _ h (recorded (Starts a n) h) refl refl
one_more (Stops a) h = line_more _ h (recorded (Stops a) h) refl refl
one_more (Drops a i) h = line_more _ h (recorded (Drops a i) h) refl refl
one_more (Changes n f v rs) h = quiet h (recorded (Changes n f v rs) h) refl refl
one_more (Delivers n f r) h = line_more _ h (recorded (Delivers n f r) h) refl refl
one_more Answers h = answered h.unanswered h
one_more (Walks i handlers) h = quiet h (recorded (Walks i handlers) h) refl refl
one_more (Visits n) h = quiet h (recorded (Visits n) h) refl refl
one_more (Takes key press n taken) h = line_more _ h (recorded (Takes key press n taken) h) refl refl

pub all_more : (labels : List Label) (h : History) → GoesOn h (record_all labels h)
all_more [] h = same h
all_more (label ∷ labels) h = then_on h (recorded label h) (record_all labels (recorded label h)) (one_more label h) (all_more labels (recorded label h))

module _ (ch : Channel) (bound : ℕ) where
  pub turn_more : (a n : ℕ) (w : World) → GoesOn w.history (turn ch bound a n w).history
  turn_more a zero w = same w.history
  turn_more a (suc n) w = at_step (turn_more a n) (step ch a w.core)
    where
      by_bound : ((v : World) → GoesOn v.history (turn ch bound a n v).history) → (m : Moved) (b : Bool) → GoesOn w.history (turned b (turn ch bound a n) m w).history
      by_bound ih m true = then_on w.history (record_all m.labels w.history) (turn ch bound a n (stepped m w)).history (all_more m.labels w.history) (ih (stepped m w))
      by_bound ih m false = same w.history

      at_step : ((v : World) → GoesOn v.history (turn ch bound a n v).history) → (o : Option Moved) → GoesOn w.history (turned_if bound (turn ch bound a n) o w).history
      at_step ih None = same w.history
      at_step ih (Some m) = by_bound ih m (nat_lt w.steps bound)

  turns_more : (n a count : ℕ) (w : World) → GoesOn w.history (turns_from ch bound n a count w).history
  turns_more n a zero w = same w.history
  turns_more n a (suc count) w = then_on w.history (turn ch bound a n w).history (turns_from ch bound n (a + 1) count (turn ch bound a n w)).history (turn_more a n w) (turns_more n (a + 1) count (turn ch bound a n w))

  key_more : (o : Option EndReason) (key : Key) (press : Bool) (w : World) → GoesOn w.history (key_comes o key press w).history
  key_more (Some reason) key press w = same w.history
  key_more None key press w = all_more (Comes (w.keys + 1) ∷ []) w.history

  pub happens_more : (e : Event) (w : World) → GoesOn w.history (happens ch bound e w).history
  happens_more (event.Key key press) w = key_more w.core.ending key press w
  happens_more (event.Turn a n) w = turn_more a n w
  happens_more (event.Round n) w = turns_more n 0 (length w.core.actors) w
  happens_more (event.Expire a) w = same w.history

  after_more : (events : List Event) (w : World) → GoesOn w.history (after ch bound events w).history
  after_more [] w = same w.history
  after_more (e ∷ events) w = then_on w.history (happens ch bound e w).history (after ch bound events (happens ch bound e w)).history (happens_more e w) (after_more events (happens ch bound e w))

  after_both : (events more : List Event) (w : World) → after ch bound (events ++ more) w ≡ after ch bound more (after ch bound events w)
  after_both [] more w = refl
  after_both (e ∷ events) more w = after_both events more (happens ch bound e w)

  pub text_front : (events more : List Event) → BeginsWith (run_text ch (run ch bound (events ++ more))) (trace_bytes ch.paths (run ch bound events).history.trace)
  text_front events more =
      let v : World = run ch bound events in
      let w : World = after ch bound more v in
      let on : GoesOn v.history w.history = after_more more v in
      let tail : List ℕ = end_line (unwrap_or w.core.ending why.Script) ++ report w.core.nodes in
      record {
        rest = trace_bytes ch.paths on.lines ++ tail;
        is = ap (run_text ch) (after_both events more (opening ch))
            ∙ ap (λ l. trace_bytes ch.paths l ++ tail) on.trace
            ∙ ap (λ l. l ++ tail) (flat_map-append (line_text ch.paths) v.history.trace on.lines)
            ∙ append_assoc (trace_bytes ch.paths v.history.trace) (trace_bytes ch.paths on.lines) tail;
      }
