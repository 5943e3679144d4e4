-- A run turn by turn comes to what its body traces in as many steps as the turns and the bound allow.
use Rattle.std.proofs.Common.{◌≡◌, ℕ, zero, suc, ◌+◌, ◌-◌, ◌≤◌, ◌<◌, min, sum, ◌⊎◌, inl, inr, Bool, true, false, List, [], ◌∷◌, ◌++◌, fold, Option, Some, None, is_some, nat_lt, eqb, map, if◌then◌else◌, refl, sym, ap, ◌∙◌, arith, append_assoc, append-nil}
use Rattle.std.specs.Option.{option_map_or}
use Rattle.std.proofs.lemmas.List.Sums.{sum_by-cons}
use Rattle.std.proofs.lemmas.Bool.Decides.{nat_tests}
use Rattle.chan_values.specs.declared.end_reason.EndReason.{EndReason}
use Rattle.chan_values.specs.declared.event.Event.{Event}
use Rattle.chan_values.specs.declared.event.Event.TheVariants.{Key, Turn, Round, Expire}
use Rattle.trace_report.specs.TraceText.{ended_line}
use Rattle.channel_run.specs.FirstMeaning.{Locals, Statement, Actor, Running, Ended, actor_step}
use Rattle.channel_run.specs.FirstText.{Run, after_step, out_of_steps, turn, after_event}
use Rattle.channel_run.specs.FirstLines.{reason_of, asked_by}
use Rattle.channel_run.proofs.FirstSteps.{Ready, body_text, body_ends, BodyStep, body_step, body_text_none, body_ends_none}

-- ---- turns one after another

option_cases : {A : Type 0} (o : Option A) → (o ≡ None) ⊎ ((x : A) × (o ≡ Some x))
option_cases None = inl refl
option_cases (Some x) = inr (x, refl)

bool_cases : (b : Bool) → (b ≡ true) ⊎ (b ≡ false)
bool_cases true = inl refl
bool_cases false = inr refl

turn_ended : (bound n : ℕ) (run : Run) → is_some run.end ≡ true → turn bound n run ≡ run
turn_ended bound zero run h = refl
turn_ended bound (suc n) run h = ap (λ t. if t then run else option_map_or (λ next. if nat_lt run.steps bound then turn bound n (after_step run next) else out_of_steps run) (actor_step run.actor) run) h

turn_open : (bound n : ℕ) (run : Run) → is_some run.end ≡ false
    → turn bound (suc n) run ≡ option_map_or (λ next. if nat_lt run.steps bound then turn bound n (after_step run next) else out_of_steps run) (actor_step run.actor) run
turn_open bound n run h = ap (λ t. if t then run else option_map_or (λ next. if nat_lt run.steps bound then turn bound n (after_step run next) else out_of_steps run) (actor_step run.actor) run) h

turn_still : (bound n : ℕ) (run : Run) → is_some run.end ≡ false → actor_step run.actor ≡ None → turn bound n run ≡ run
turn_still bound zero run h none = refl
turn_still bound (suc n) run h none =
    turn_open bound n run h ∙ ap (λ o. option_map_or (λ next. if nat_lt run.steps bound then turn bound n (after_step run next) else out_of_steps run) o run) none

pub turn_makes : (bound n : ℕ) (run : Run) (next : Actor × List ℕ) → is_some run.end ≡ false → actor_step run.actor ≡ Some next → nat_lt run.steps bound ≡ true
    → turn bound (suc n) run ≡ turn bound n (after_step run next)
turn_makes bound n run next h some under =
    turn_open bound n run h ∙ ap (λ o. option_map_or (λ next. if nat_lt run.steps bound then turn bound n (after_step run next) else out_of_steps run) o run) some
    ∙ ap (λ t. if t then turn bound n (after_step run next) else out_of_steps run) under

pub turn_stops : (bound n : ℕ) (run : Run) (next : Actor × List ℕ) → is_some run.end ≡ false → actor_step run.actor ≡ Some next → nat_lt run.steps bound ≡ false
    → turn bound (suc n) run ≡ out_of_steps run
turn_stops bound n run next h some over =
    turn_open bound n run h ∙ ap (λ o. option_map_or (λ next. if nat_lt run.steps bound then turn bound n (after_step run next) else out_of_steps run) o run) some
    ∙ ap (λ t. if t then turn bound n (after_step run next) else out_of_steps run) over

turn_add : (bound n m : ℕ) (run : Run) → turn bound m (turn bound n run) ≡ turn bound (n + m) run
turn_add bound zero m run = let none : m ≡ zero + m = omega arith in ap (λ k. turn bound k run) none
turn_add bound (suc n) m run =
    let one_more : suc n + m ≡ suc (n + m) = omega arith in
    let more : turn bound (suc n + m) run ≡ turn bound (suc (n + m)) run = ap (λ k. turn bound k run) one_more in
    elim (bool_cases (is_some run.end)) [
      | inl ended ↦ ap (turn bound m) (turn_ended bound (suc n) run ended) ∙ turn_ended bound m run ended ∙ sym (turn_ended bound (suc n + m) run ended)
      | inr going ↦ elim (option_cases (actor_step run.actor)) [
        | inl none ↦ ap (turn bound m) (turn_still bound (suc n) run going none) ∙ turn_still bound m run going none ∙ sym (turn_still bound (suc n + m) run going none)
        | inr some ↦ elim (bool_cases (nat_lt run.steps bound)) [
          | inl under ↦ ap (turn bound m) (turn_makes bound n run some.0 going some.1 under) ∙ turn_add bound n m (after_step run some.0)
              ∙ sym (more ∙ turn_makes bound (n + m) run some.0 going some.1 under)
          | inr over ↦ ap (turn bound m) (turn_stops bound n run some.0 going some.1 over) ∙ turn_ended bound m (out_of_steps run) refl
              ∙ sym (more ∙ turn_stops bound (n + m) run some.0 going some.1 over)
        ]
      ]
    ]

-- the turns together ask for the sum of their steps
turns_sum : (bound : ℕ) (turns : List ℕ) (run : Run) → fold (λ run n. turn bound n run) run turns ≡ turn bound (sum turns) run
turns_sum bound [] run = refl
turns_sum bound (n ∷ turns) run = turns_sum bound turns (turn bound n run) ∙ turn_add bound n (sum turns) run
    ∙ ap (λ k. turn bound k run) (sym (sum_by-cons (λ x. x) n turns))

-- ---- events as turns

turn_if : (b : Bool) (bound n : ℕ) (run : Run) → (if b then turn bound n run else run) ≡ turn bound (if b then n else 0) run
turn_if true bound n run = refl
turn_if false bound n run = refl

pub event_turn : (bound : ℕ) (run : Run) (event : Event) → after_event bound run event ≡ turn bound (asked_by event) run
event_turn bound run (Key key pressed) = refl
event_turn bound run (Turn actor n) = turn_if (eqb actor 1) bound n run
event_turn bound run (Round n) = refl
event_turn bound run (Expire actor) = refl

pub events_turns : (bound : ℕ) (events : List Event) (run : Run) → fold (after_event bound) run events ≡ fold (λ run n. turn bound n run) run (map asked_by events)
events_turns bound [] run = refl
events_turns bound (event ∷ events) run =
    events_turns bound events (after_event bound run event) ∙ ap (λ r. fold (λ run n. turn bound n run) r (map asked_by events)) (event_turn bound run event)

-- ---- a turn over a body

pub record EndsWith (run : Run) (text : List ℕ) (reason : Option EndReason) : Type 0 where
  pub traced : run.trace ≡ text
  pub ended : run.end ≡ reason

abbrev running : List Statement → Locals → ℕ → List ℕ → Run
running statements locals steps trace = record { actor = Running statements locals; steps = steps; trace = trace; end = None }

-- at most n steps, and at most as many as are left
abbrev ForBody : ℕ → ℕ → List Statement → Locals → ℕ → List ℕ → Type 0
ForBody bound n statements locals steps trace =
    EndsWith (turn bound n (running statements locals steps trace)) (trace ++ body_text (min n (bound - steps)) locals statements) (reason_of (body_ends (min n (bound - steps)) locals statements) (nat_lt (bound - steps) n))

-- where no step can be made, nothing is traced
nothing_more : (k : ℕ) (statements : List Statement) (locals : Locals) (trace : List ℕ) (over : Bool) (run : Run) → k ≡ 0 → run.trace ≡ trace → run.end ≡ reason_of false over
    → EndsWith run (trace ++ body_text k locals statements) (reason_of (body_ends k locals statements) over)
nothing_more k statements locals trace over run none same reason = record {
  traced = same ∙ sym (ap (λ k. trace ++ body_text k locals statements) none ∙ ap (λ t. trace ++ t) (body_text_none locals statements) ∙ append-nil trace);
  ended = reason ∙ sym (ap (λ k. reason_of (body_ends k locals statements) over) none ∙ ap (λ e. reason_of e over) (body_ends_none locals statements));
}

no_turn : (bound : ℕ) (statements : List Statement) (locals : Locals) (steps : ℕ) (trace : List ℕ) → ForBody bound zero statements locals steps trace
no_turn bound statements locals steps trace =
    let none : min zero (bound - steps) ≡ 0 = omega arith in
    let over : nat_lt (bound - steps) zero ≡ false = grind (arith, nat_tests) in
    nothing_more (min zero (bound - steps)) statements locals trace (nat_lt (bound - steps) zero) (running statements locals steps trace) none refl (sym (ap (reason_of false) over))

used_up : (bound n : ℕ) (statements : List Statement) (locals : Locals) (steps : ℕ) (trace : List ℕ) (next : Actor × List ℕ) → actor_step (Running statements locals) ≡ Some next → bound ≤ steps
    → ForBody bound (suc n) statements locals steps trace
used_up bound n statements locals steps trace next can over =
    let none : min (suc n) (bound - steps) ≡ 0 = omega arith in
    let asked : nat_lt (bound - steps) (suc n) ≡ true = grind (arith, nat_tests) in
    let past : nat_lt steps bound ≡ false = grind (arith, nat_tests) in
    let stops : turn bound (suc n) (running statements locals steps trace) ≡ out_of_steps (running statements locals steps trace) = turn_stops bound n (running statements locals steps trace) next refl can past in
    nothing_more (min (suc n) (bound - steps)) statements locals trace (nat_lt (bound - steps) (suc n)) (turn bound (suc n) (running statements locals steps trace)) none
    (ap (λ r. r.trace) stops) (ap (λ r. r.end) stops ∙ sym (ap (reason_of false) asked))

last_step : (bound n : ℕ) (locals : Locals) (steps : ℕ) (trace : List ℕ) → steps < bound → ForBody bound (suc n) [] locals steps trace
last_step bound n locals steps trace under =
    let before : nat_lt steps bound ≡ true = grind (arith, nat_tests) in
    let some : nat_lt 0 (min (suc n) (bound - steps)) ≡ true = grind (arith, nat_tests) in
    let made = turn_makes bound n (running [] locals steps trace) (Ended, ended_line 1) refl refl before ∙ turn_ended bound n (after_step (running [] locals steps trace) (Ended, ended_line 1)) refl in
    record {
      traced = ap (λ r. r.trace) made ∙ sym (ap (λ t. trace ++ (if t then ended_line 1 else [])) some);
      ended = ap (λ r. r.end) made ∙ sym (ap (λ t. reason_of t (nat_lt (bound - steps) (suc n))) some);
    }

one_step : (bound n : ℕ) (statements : List Statement) (locals : Locals) (steps : ℕ) (trace : List ℕ) (step : BodyStep locals statements) → steps < bound
    → ForBody bound n step.after step.locals_after (steps + 1) (trace ++ step.traced) → ForBody bound (suc n) statements locals steps trace
one_step bound n statements locals steps trace step under rest =
    let before : nat_lt steps bound ≡ true = grind (arith, nat_tests) in
    let made = turn_makes bound n (running statements locals steps trace) (Running step.after step.locals_after, step.traced) refl step.steps before in
    let fewer : min (suc n) (bound - steps) ≡ suc (min n (bound - (steps + 1))) = omega arith in
    let asked : nat_lt (bound - (steps + 1)) n ≡ nat_lt (bound - steps) (suc n) = grind (arith, nat_tests) in
    record {
      traced = ap (λ r. r.trace) made ∙ rest.traced ∙ append_assoc trace step.traced _
          ∙ sym (ap (λ k. trace ++ body_text k locals statements) fewer ∙ ap (λ t. trace ++ t) (step.text (min n (bound - (steps + 1)))));
      ended = ap (λ r. r.end) made ∙ rest.ended ∙ ap (reason_of (body_ends (min n (bound - (steps + 1))) step.locals_after step.after)) asked
          ∙ sym (ap (λ k. reason_of (body_ends k locals statements) (nat_lt (bound - steps) (suc n))) fewer ∙ ap (λ e. reason_of e (nat_lt (bound - steps) (suc n))) (step.ends (min n (bound - (steps + 1)))));
    }

compared : (a b : ℕ) → (a < b) ⊎ (b ≤ a)
compared a b = elim (bool_cases (nat_lt a b)) [ inl less ↦ inl (grind (arith, nat_tests)) | inr not_less ↦ inr (grind (arith, nat_tests)) ]

body_turn : (bound n : ℕ) (statements : List Statement) (locals : Locals) (steps : ℕ) (trace : List ℕ) → Ready locals statements → ForBody bound n statements locals steps trace
body_turn bound zero statements locals steps trace ready = no_turn bound statements locals steps trace
body_turn bound (suc n) [] locals steps trace ready = elim (compared steps bound) [
  | inl under ↦ last_step bound n locals steps trace under
  | inr over ↦ used_up bound n [] locals steps trace (Ended, ended_line 1) refl over
]
body_turn bound (suc n) (statement ∷ rest) locals steps trace ready =
    let step = body_step locals statement rest ready in
    elim (compared steps bound) [
      | inl under ↦ one_step bound n (statement ∷ rest) locals steps trace step under (body_turn bound n step.after step.locals_after (steps + 1) (trace ++ step.traced) step.ready)
      | inr over ↦ used_up bound n (statement ∷ rest) locals steps trace (Running step.after step.locals_after, step.traced) step.steps over
    ]

-- a run of a body under the turns of a script
pub body_run : (bound : ℕ) (turns : List ℕ) (statements : List Statement) → Ready [] statements
    → EndsWith (fold (λ run n. turn bound n run) (running statements [] 0 []) turns) (body_text (min (sum turns) bound) [] statements) (reason_of (body_ends (min (sum turns) bound) [] statements) (nat_lt bound (sum turns)))
body_run bound turns statements ready =
    let all = turns_sum bound turns (running statements [] 0 []) in
    let whole : EndsWith (turn bound (sum turns) (running statements [] 0 [])) (body_text (min (sum turns) (bound - 0)) [] statements) (reason_of (body_ends (min (sum turns) (bound - 0)) [] statements) (nat_lt (bound - 0) (sum turns))) = body_turn bound (sum turns) statements [] 0 [] ready in
    let left : bound - 0 ≡ bound = omega arith in
    record {
      traced = ap (λ r. r.trace) all ∙ whole.traced ∙ ap (λ b. body_text (min (sum turns) b) [] statements) left;
      ended = ap (λ r. r.end) all ∙ whole.ended ∙ ap (λ b. reason_of (body_ends (min (sum turns) b) [] statements) (nat_lt b (sum turns))) left;
    }
