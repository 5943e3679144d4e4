-- The text of a run, line by line.
use Rattle.std.proofs.Common.{◌≡◌, ℕ, ◌+◌, min, sum, sum_by, Bool, true, false, List, [], ◌++◌, fold, IsTrue, Option, nat_lt, if◌then◌else◌, sym, ap, ◌∙◌, map, pos, refl, arith, append-nil}
use Rattle.std.specs.Prelude.{unwrap_or}
use Rattle.std.specs.List.{before_first}
use Rattle.std.proofs.lemmas.Bool.Decides.{nat_tests}
use Rattle.std.proofs.lemmas.List.Sums.{sum-map}
use Rattle.chan_values.specs.declared.end_reason.EndReason.{EndReason}
use Rattle.chan_values.specs.declared.end_reason.EndReason.TheVariants.{Script as ReadToTheEnd}
use Rattle.chan_values.specs.declared.event.Event.{Event}
use Rattle.first_form.specs.declared.tree.FirstMain.{FirstMain}
use Rattle.first_form.specs.declared.tree.Line.{Line}
use Rattle.first_form.specs.FirstNames.{names_set}
use Rattle.trace_report.specs.TraceText.{end_line}
use Rattle.channel_run.specs.declared.script.Script.{Script}
use Rattle.channel_run.specs.Answer.{is_key, is_whole, first_text}
use Rattle.channel_run.specs.FirstMeaning.{line_statement}
use Rattle.channel_run.specs.FirstText.{Run, turn, opening, run_of, first_report, last_lines}
use Rattle.channel_run.specs.FirstLines.{lines_text, lines_end, reason_of, asked_by}
use Rattle.channel_run.proofs.FirstRuns.{events_turns, body_run}
use Rattle.channel_run.proofs.FirstBodies.{main_comes}

-- what a run traces and how it ends
pub record Comes (main : FirstMain) (events : List Event) (bound steps : ℕ) (over : Bool) : Type 0 where
  pub trace : (run_of main events bound).trace ≡ lines_text steps (λ _. pos 0) main.lines
  pub end : (run_of main events bound).end ≡ reason_of (lines_end steps main.lines) over

comes : (main : FirstMain) (events : List Event) (bound : ℕ) → IsTrue (names_set [] main.lines)
    → Comes main events bound (min (sum (map asked_by events)) bound) (nat_lt bound (sum (map asked_by events)))
comes main events bound names =
    let lines = main_comes main.lines (λ _. pos 0) names in
    let run = body_run bound (map asked_by events) (map line_statement main.lines) lines.ready in
    let same = events_turns bound events (opening main) in
    record {
      trace = ap (λ (r : Run). r.trace) same ∙ run.traced ∙ lines.text (min (sum (map asked_by events)) bound);
      end = ap (λ (r : Run). r.end) same ∙ run.ended ∙ ap (λ e. reason_of e (nat_lt bound (sum (map asked_by events)))) (lines.ends (min (sum (map asked_by events)) bound));
    }

-- the same by the number of steps that the code may make
pub run_comes : (main : FirstMain) (events : List Event) (bound asked steps : ℕ) → IsTrue (names_set [] main.lines) → asked ≡ min (sum_by asked_by events) (bound + 1) → steps ≡ min asked bound
    → Comes main events bound steps (nat_lt bound asked)
run_comes main events bound asked steps names asked_is steps_is =
    let run = comes main events bound names in
    let allowed : min (sum (map asked_by events)) bound ≡ steps = omega (arith, sum-map asked_by events) in
    let over : nat_lt bound (sum (map asked_by events)) ≡ nat_lt bound asked = let summed = sum-map asked_by events in grind (arith, nat_tests) in
    record {
      trace = run.trace ∙ ap (λ k. lines_text k (λ _. pos 0) main.lines) allowed;
      end = run.end ∙ ap (λ k. reason_of (lines_end k main.lines) (nat_lt bound (sum (map asked_by events)))) allowed ∙ ap (reason_of (lines_end steps main.lines)) over;
    }

-- what was handed over and answered on the way
pub record Ran (main : FirstMain) (script : Script) (bound steps : ℕ) (lines : List Line) (over : Bool) : Type 0 where
  pub lines_are : lines ≡ main.lines
  pub comes : Comes main (before_first is_key script.events) bound steps over

pub ran : (main : FirstMain) (script : Script) (bound asked steps : ℕ) (lines : List Line) (events : List Event) → IsTrue (names_set [] main.lines) → events ≡ before_first is_key script.events
    → asked ≡ min (sum_by asked_by events) (bound + 1) → steps ≡ min asked bound → lines ≡ main.lines → Ran main script bound steps lines (nat_lt bound asked)
ran main script bound asked steps lines events names events_are asked_is steps_is lines_are = record {
  lines_are = lines_are;
  comes = run_comes main (before_first is_key script.events) bound asked steps names (asked_is ∙ ap (λ es. min (sum_by asked_by es) (bound + 1)) events_are) steps_is;
}

-- what follows the trace
abbrev pub rest_of : FirstMain → Script → ℕ → List ℕ
rest_of main script bound = if is_whole script then last_lines (run_of main (before_first is_key script.events) bound).end else []

pub text_parts : (main : FirstMain) (script : Script) (bound steps : ℕ) (lines : List Line) (over : Bool) → Ran main script bound steps lines over
    → first_text main script bound ≡ lines_text steps (λ _. pos 0) lines ++ rest_of main script bound
text_parts main script bound steps lines over run =
    ap (λ t. t ++ rest_of main script bound) (run.comes.trace ∙ ap (lines_text steps (λ _. pos 0)) (sym run.lines_are))

pub text_whole : (main : FirstMain) (script : Script) (bound steps : ℕ) (lines : List Line) (over ended : Bool) (reason : EndReason) → Ran main script bound steps lines over → is_whole script ≡ true
    → ended ≡ lines_end steps lines → reason ≡ unwrap_or (reason_of ended over) ReadToTheEnd
    → first_text main script bound ≡ lines_text steps (λ _. pos 0) lines ++ (end_line reason ++ first_report)
text_whole main script bound steps lines over ended reason run whole ended_is reason_is =
    text_parts main script bound steps lines over run
    ∙ ap (λ t. lines_text steps (λ _. pos 0) lines ++ t)
    (ap (λ b. if b then last_lines (run_of main (before_first is_key script.events) bound).end else []) whole
    ∙ ap last_lines (run.comes.end ∙ ap (λ ls. reason_of (lines_end steps ls) over) (sym run.lines_are) ∙ ap (λ e. reason_of e over) (sym ended_is))
    ∙ ap (λ r. end_line r ++ first_report) (sym reason_is))

pub text_part : (main : FirstMain) (script : Script) (bound steps : ℕ) (lines : List Line) (over : Bool) → Ran main script bound steps lines over → is_whole script ≡ false
    → first_text main script bound ≡ lines_text steps (λ _. pos 0) lines
text_part main script bound steps lines over run part =
    text_parts main script bound steps lines over run
    ∙ ap (λ b. lines_text steps (λ _. pos 0) lines ++ (if b then last_lines (run_of main (before_first is_key script.events) bound).end else [])) part
    ∙ append-nil (lines_text steps (λ _. pos 0) lines)
