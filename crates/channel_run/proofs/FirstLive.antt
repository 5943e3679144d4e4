-- A Main whose names were set is never stuck.
use Rattle.std.proofs.Common.{◌≡◌, ℕ, zero, suc, Bool, true, false, List, [], ◌∷◌, fold, Option, Some, None, is_some, IsSome, IsTrue, nat_lt, if◌then◌else◌, pos, refl, sym, subst}
use Rattle.std.specs.Option.{option_map_or}
use Rattle.first_form.specs.declared.tree.FirstMain.{FirstMain}
use Rattle.first_form.specs.FirstNames.{names_set}
use Rattle.chan_values.specs.declared.event.Event.{Event}
use Rattle.trace_report.specs.TraceText.{ended_line}
use Rattle.channel_run.specs.FirstMeaning.{Locals, Statement, Actor, Running, Ended, actor_step}
use Rattle.channel_run.specs.FirstText.{Run, opening, after_step, out_of_steps, turn, after_event, run_of, IsLive}
use Rattle.channel_run.specs.FirstLines.{asked_by}
use Rattle.channel_run.proofs.FirstRuns.{event_turn}
use Rattle.channel_run.proofs.FirstSteps.{Ready, body_step}
use Rattle.channel_run.proofs.FirstBodies.{main_comes}

-- what is left of the body has its effects
abbrev IsSound : Actor → Type 0
IsSound (Running statements locals) = Ready locals statements
IsSound Ended = Unit {0}

-- a sound actor that has not ended has a step to a sound one
record HasStep (actor : Actor) : Type 0 where
  next : Actor × List ℕ
  steps : actor_step actor ≡ Some next
  sound : IsSound next.0

sound_step : (locals : Locals) (statements : List Statement) → Ready locals statements → HasStep (Running statements locals)
sound_step locals [] ready = record { next = (Ended, ended_line 1); steps = refl; sound = tt }
sound_step locals (statement ∷ rest) ready =
    let step = body_step locals statement rest ready in
    record { next = (Running step.after step.locals_after, step.traced); steps = step.steps; sound = step.ready }

sound_live : (actor : Actor) → IsSound actor → IsLive actor
sound_live (Running statements locals) ready = let step = sound_step locals statements ready in subst (λ o. IsSome o) (sym step.steps) refl
sound_live Ended sound = tt

-- whatever the tests say
sound_if : (b : Bool) (first second : Run) → IsSound first.actor → IsSound second.actor → IsSound (if b then first else second).actor
sound_if true first second f s = f
sound_if false first second f s = s

next_sound : (actor : Actor) (next : Actor × List ℕ) → IsSound actor → actor_step actor ≡ Some next → IsSound next.0
next_sound (Running statements locals) next ready steps =
    let step = sound_step locals statements ready in
    let same : step.next ≡ next = cc (step.steps, steps) in
    subst (λ x. IsSound x.0) same step.sound
next_sound Ended next sound steps = absurd (cc)

sound_map : (o : Option (Actor × List ℕ)) (f : Actor × List ℕ → Run) (run : Run) → ((next : Actor × List ℕ) → o ≡ Some next → IsSound (f next).actor) → IsSound run.actor → IsSound (option_map_or f o run).actor
sound_map None f run each sound = sound
sound_map (Some next) f run each sound = each next refl

turn_sound : (bound n : ℕ) (run : Run) → IsSound run.actor → IsSound (turn bound n run).actor
turn_sound bound zero run sound = sound
turn_sound bound (suc n) run sound =
    sound_if (is_some run.end) run (option_map_or (λ next. if nat_lt run.steps bound then turn bound n (after_step run next) else out_of_steps run) (actor_step run.actor) run) sound
    (sound_map (actor_step run.actor) (λ next. if nat_lt run.steps bound then turn bound n (after_step run next) else out_of_steps run) run
    (λ next steps. sound_if (nat_lt run.steps bound) (turn bound n (after_step run next)) (out_of_steps run) (turn_sound bound n (after_step run next) (next_sound run.actor next sound steps)) sound)
    sound)

events_sound : (bound : ℕ) (events : List Event) (run : Run) → IsSound run.actor → IsSound (fold (after_event bound) run events).actor
events_sound bound [] run sound = sound
events_sound bound (event ∷ events) run sound =
    events_sound bound events (after_event bound run event) (subst (λ (r : Run). IsSound r.actor) (sym (event_turn bound run event)) (turn_sound bound (asked_by event) run sound))

pub never_stuck : (main : FirstMain) (events : List Event) (bound : ℕ) → IsTrue (names_set [] main.lines) → IsLive (run_of main events bound).actor
never_stuck main events bound names = sound_live (run_of main events bound).actor (events_sound bound events (opening main) (main_comes main.lines (λ _. pos 0) names).ready)
