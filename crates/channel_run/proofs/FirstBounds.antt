-- A run makes no more steps than its bound.
use Rattle.std.proofs.Common.{◌≡◌, ℕ, zero, suc, ◌≤◌, Bool, true, false, List, [], ◌∷◌, fold, Option, Some, None, is_some, nat_lt, if◌then◌else◌, refl, sym, subst, arith}
use Rattle.std.specs.Option.{option_map_or}
use Rattle.std.proofs.lemmas.Bool.Decides.{nat_tests}
use Rattle.first_form.specs.declared.tree.FirstMain.{FirstMain}
use Rattle.chan_values.specs.declared.event.Event.{Event}
use Rattle.channel_run.specs.FirstMeaning.{Actor, actor_step}
use Rattle.channel_run.specs.FirstText.{Run, opening, after_step, out_of_steps, turn, after_event, run_of}
use Rattle.channel_run.specs.FirstLines.{asked_by}
use Rattle.channel_run.proofs.FirstRuns.{event_turn}

bounded_if : (bound : ℕ) (b : Bool) (first second : Run) → (b ≡ true → first.steps ≤ bound) → second.steps ≤ bound → (if b then first else second).steps ≤ bound
bounded_if bound true first second f s = f refl
bounded_if bound false first second f s = s

bounded_map : (bound : ℕ) (o : Option (Actor × List ℕ)) (f : Actor × List ℕ → Run) (run : Run) → ((next : Actor × List ℕ) → (f next).steps ≤ bound) → run.steps ≤ bound → (option_map_or f o run).steps ≤ bound
bounded_map bound None f run each small = small
bounded_map bound (Some next) f run each small = each next

turn_bounded : (bound n : ℕ) (run : Run) → run.steps ≤ bound → (turn bound n run).steps ≤ bound
turn_bounded bound zero run small = small
turn_bounded bound (suc n) run small =
    bounded_if bound (is_some run.end) run (option_map_or (λ next. if nat_lt run.steps bound then turn bound n (after_step run next) else out_of_steps run) (actor_step run.actor) run) (λ _. small)
    (bounded_map bound (actor_step run.actor) (λ next. if nat_lt run.steps bound then turn bound n (after_step run next) else out_of_steps run) run
    (λ next. bounded_if bound (nat_lt run.steps bound) (turn bound n (after_step run next)) (out_of_steps run) (λ under. turn_bounded bound n (after_step run next) (grind (arith, nat_tests))) small)
    small)

events_bounded : (bound : ℕ) (events : List Event) (run : Run) → run.steps ≤ bound → (fold (after_event bound) run events).steps ≤ bound
events_bounded bound [] run small = small
events_bounded bound (event ∷ events) run small =
    events_bounded bound events (after_event bound run event) (subst (λ (r : Run). r.steps ≤ bound) (sym (event_turn bound run event)) (turn_bounded bound (asked_by event) run small))

pub steps_bounded : (main : FirstMain) (events : List Event) (bound : ℕ) → (run_of main events bound).steps ≤ bound
steps_bounded main events bound = events_bounded bound events (opening main) (omega arith)
