-- The text of a run of one Main under the events of a script: its trace, how it ended, and the report.
use Rattle.std.specs.Prelude.{ℕ, zero, suc, ◌+◌, ◌==◌, List, [], ◌∷◌, ◌++◌, fold, codes, Option, Some, None, is_some, IsSome, unwrap_or, nat_lt, if◌then◌else◌}
use Rattle.std.specs.Option.{option_map_or}
use Rattle.chan_values.specs.declared.end_reason.EndReason.{EndReason}
use Rattle.chan_values.specs.declared.end_reason.EndReason.TheVariants as reason
use Rattle.chan_values.specs.declared.event.Event.{Event}
use Rattle.chan_values.specs.declared.event.Event.TheVariants.{Key, Turn, Round, Expire}
use Rattle.first_form.specs.declared.tree.FirstMain.{FirstMain}
use Rattle.trace_report.specs.TraceText.{end_line}
use Rattle.trace_report.specs.ReportText.{node_line}
use Rattle.channel_run.specs.FirstMeaning.{Actor, Running, Ended, actor_step, opening_actor}

-- a run so far: the actor of Main, how many steps were made, what they traced, and the end, if any
pub record Run : Type 0 where
  pub actor : Actor
  pub steps : ℕ
  pub trace : List ℕ
  pub end : Option EndReason

abbrev pub opening : FirstMain → Run
opening main = record { actor = opening_actor main; steps = 0; trace = []; end = None }

-- a run ends as its actor does
abbrev pub end_at : Actor → Option EndReason
end_at (Running statements locals) = None
end_at Ended = Some reason.Main

-- one step more, to this actor and with this addition to the trace
abbrev pub after_step : Run → Actor × List ℕ → Run
after_step run next =
    record { actor = next.0; steps = run.steps + 1; trace = run.trace ++ next.1; end = end_at next.0 }

abbrev pub out_of_steps : Run → Run
out_of_steps run = record { actor = run.actor; steps = run.steps; trace = run.trace; end = Some reason.Steps }

-- a turn of Main's actor: n steps are made, or as many as the actor has. Where one more is asked for that the actor has, and as
-- many as the bound are made, the run ends. After its end no turn changes it.
abbrev pub turn : ℕ → ℕ → Run → Run
turn bound zero run = run
turn bound (suc n) run =
    if is_some run.end then run
    else option_map_or
    (λ next. if nat_lt run.steps bound then turn bound n (after_step run next) else out_of_steps run)
    (actor_step run.actor)
    run

-- ---- events

-- the actors in ascending order: the render thread, which is idle with an empty inbox, and Main's
abbrev pub actors : List ℕ
actors = 0 ∷ 1 ∷ []

-- only Main's actor makes steps
abbrev pub turn_of : ℕ → ℕ → Run → ℕ → Run
turn_of bound n run actor = if actor == 1 then turn bound n run else run

-- A round is a turn of each actor in ascending order. No actor waits for a message, so the end of a wait changes nothing. Keys
-- aren't built.
abbrev pub after_event : ℕ → Run → Event → Run
after_event bound run (Key key pressed) = run
after_event bound run (Turn actor n) = turn_of bound n run actor
after_event bound run (Round n) = fold (turn_of bound n) run actors
after_event bound run (Expire actor) = run

-- events one after another
abbrev pub run_of : FirstMain → List Event → ℕ → Run
run_of main events bound = fold (after_event bound) (opening main) events

-- ---- the text

-- the one node of a channel without components
abbrev pub first_report : List ℕ
first_report = node_line 1 (codes "Node") 0 None []

-- how a run ends is told where its script was read to the end, and then the report follows
abbrev pub last_lines : Option EndReason → List ℕ
last_lines end = end_line (unwrap_or end reason.Script) ++ first_report

-- the actor has ended, or it has a step
abbrev pub IsLive : Actor → Type 0
IsLive (Running statements locals) = IsSome (actor_step (Running statements locals))
IsLive Ended = Unit {0}
