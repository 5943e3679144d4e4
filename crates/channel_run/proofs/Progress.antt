-- How far the lines of a Main were run.
use Rattle.std.proofs.Common.{◌≡◌, ℕ, ◌+◌, ◌-◌, ◌≤◌, ◌<◌, true, false, ◌&&◌, List, [], ◌∷◌, ◌++◌, length, get_or, drop, Option, pos, nat_le, nat_lt, if◌then◌else◌, refl, sym, ap, ◌∙◌, subst, arith, append_assoc, append-nil, drop-cons, add-one, Result, Ok, Err, OnOk, OnErr}
use Rattle.std.proofs.lemmas.List.{drop_all}
use Rattle.std.specs.Io.KnownBytes.{Appends}
use Rattle.first_form.specs.declared.tree.Line.{Line}
use Rattle.trace_report.specs.TraceText.{ended_line}
use Rattle.channel_run.specs.FirstLines.{Numbers, line_text, numbers_after, line_steps, lines_text, lines_end}
use Rattle.channel_run.specs.Output.{AppendsPrefix}
use Rattle.channel_run.proofs.Moves.{appends_two, prefix_more, prefix_after}
use Rattle.std.proofs.lemmas.Bool.Decides.{nat_tests}
use Rattle.std.proofs.lemmas.Bool.{le-leb}

-- what was written, and what is still to come
pub record Progress (before now : Option (List ℕ)) (steps left : ℕ) (numbers : Numbers) (lines rest : List Line) : Type 0 where
  pub done : List ℕ
  pub written : Appends before now done
  pub text : lines_text steps (λ _. pos 0) lines ≡ done ++ lines_text left numbers rest
  pub ends : lines_end steps lines ≡ lines_end left rest

-- nothing was run
pub progress_none : (a : Option (List ℕ)) (steps : ℕ) (lines : List Line) → Appends a a [] → Progress a a steps steps (λ _. pos 0) lines lines
progress_none a steps lines h = record { done = []; written = h; text = refl; ends = refl }

enough : {A : Type 0} (m k : ℕ) (a b : A) → m ≤ k → (if nat_le m k then a else b) ≡ a
enough m k a b h = ap (λ t. if t then a else b) (le-leb m k h)

too_few : {A : Type 0} (m k : ℕ) (a b : A) → k < m → (if nat_le m k then a else b) ≡ b
too_few m k a b h = let t : nat_le m k ≡ false = grind (arith, nat_tests) in ap (λ t. if t then a else b) t

-- a line was run
pub progress_more : (a b c : Option (List ℕ)) (steps left : ℕ) (numbers : Numbers) (lines : List Line) (line : Line) (rest : List Line) (left' : ℕ) (numbers' : Numbers) → Progress a b steps left numbers lines (line ∷ rest) → line_steps line ≤ left
    → Appends b c (line_text numbers line) → left' ≡ left - line_steps line → numbers' ≡ numbers_after numbers line → Progress a c steps left' numbers' lines rest
progress_more a b c steps left numbers lines line rest left' numbers' before fits more less set = record {
  done = before.done ++ line_text numbers line;
  written = appends_two a b c _ _ before.written more;
  text = before.text ∙ ap (λ t. before.done ++ t) (enough (line_steps line) left _ _ fits) ∙ sym (append_assoc before.done (line_text numbers line) _)
      ∙ ap (λ t. before.done ++ line_text numbers line ++ t) (ap (λ k. lines_text k (numbers_after numbers line) rest) (sym less) ∙ ap (λ ns. lines_text left' ns rest) (sym set));
  ends = before.ends ∙ ap (λ t. t && lines_end (left - line_steps line) rest) (le-leb (line_steps line) left fits) ∙ ap (λ k. lines_end k rest) (sym less);
}

-- a line whose steps don't fit ends the text
pub progress_stops : (a b : Option (List ℕ)) (steps left : ℕ) (numbers : Numbers) (lines : List Line) (line : Line) (rest : List Line) → Progress a b steps left numbers lines (line ∷ rest) → left < line_steps line
    → Appends a b (lines_text steps (λ _. pos 0) lines) × (lines_end steps lines ≡ false)
progress_stops a b steps left numbers lines line rest before over =
    let t : nat_le (line_steps line) left ≡ false = grind (arith, nat_tests) in (
      subst (Appends a b) (sym (before.text ∙ ap (λ t. before.done ++ t) (too_few (line_steps line) left _ _ over) ∙ append-nil before.done)) before.written,
      before.ends ∙ ap (λ b. b && lines_end (left - line_steps line) rest) t,
    )

-- a line that was written in part
pub progress_front : (a b c : Option (List ℕ)) (steps left : ℕ) (numbers : Numbers) (lines : List Line) (line : Line) (rest : List Line) → Progress a b steps left numbers lines (line ∷ rest) → line_steps line ≤ left
    → AppendsPrefix b c (line_text numbers line) → AppendsPrefix a c (lines_text steps (λ _. pos 0) lines)
progress_front a b c steps left numbers lines line rest before fits more =
    subst (AppendsPrefix a c) (sym (before.text ∙ ap (λ t. before.done ++ t) (enough (line_steps line) left _ _ fits)))
    (prefix_after a b c before.done _ before.written (prefix_more b c (line_text numbers line) _ more))

-- the next line
pub progress_at : (a b : Option (List ℕ)) (steps left : ℕ) (numbers : Numbers) (lines : List Line) (i : ℕ) (line : Line) → Progress a b steps left numbers lines (drop i lines) → i < length lines → line ≡ get_or lines i line
    → Progress a b steps left numbers lines (line ∷ drop (i + 1) lines)
progress_at a b steps left numbers lines i line before within is =
    let next : drop i lines ≡ get_or lines i line ∷ drop (i + 1) lines = rw add-one (drop-cons lines i line within) in
    subst (λ rest. Progress a b steps left numbers lines rest) (next ∙ ap (λ x. x ∷ drop (i + 1) lines) (sym is)) before

-- after the last line
pub progress_end : (a b : Option (List ℕ)) (steps left : ℕ) (numbers : Numbers) (lines : List Line) (i : ℕ) → Progress a b steps left numbers lines (drop i lines) → length lines ≤ i → Progress a b steps left numbers lines []
progress_end a b steps left numbers lines i before all = subst (λ rest. Progress a b steps left numbers lines rest) (drop_all i lines all) before

-- the body's end was written, in whole or in part
pub progress_ended : (a b c : Option (List ℕ)) (steps left : ℕ) (numbers : Numbers) (lines : List Line) → Progress a b steps left numbers lines [] → 0 < left → Appends b c (ended_line 1)
    → Appends a c (lines_text steps (λ _. pos 0) lines) × (lines_end steps lines ≡ true)
progress_ended a b c steps left numbers lines before some last =
    let t : nat_lt 0 left ≡ true = grind (arith, nat_tests) in
    (subst (Appends a c) (sym (before.text ∙ ap (λ b. before.done ++ (if b then ended_line 1 else [])) t)) (appends_two a b c _ _ before.written last), before.ends ∙ t)

pub progress_ended_front : (a b c : Option (List ℕ)) (steps left : ℕ) (numbers : Numbers) (lines : List Line) (bytes : List ℕ) → Progress a b steps left numbers lines [] → 0 < left → bytes ≡ ended_line 1 → AppendsPrefix b c bytes
    → AppendsPrefix a c (lines_text steps (λ _. pos 0) lines)
progress_ended_front a b c steps left numbers lines bytes before some is last =
    let t : nat_lt 0 left ≡ true = grind (arith, nat_tests) in
    subst (AppendsPrefix a c) (sym (before.text ∙ ap (λ b. before.done ++ (if b then ended_line 1 else [])) t)) (prefix_after a b c before.done _ before.written (subst (AppendsPrefix b c) is last))

-- no step is left for the body's end
pub progress_unended : (a b : Option (List ℕ)) (steps left : ℕ) (numbers : Numbers) (lines : List Line) → Progress a b steps left numbers lines [] → left ≡ 0
    → Appends a b (lines_text steps (λ _. pos 0) lines) × (lines_end steps lines ≡ false)
progress_unended a b steps left numbers lines before none =
    let t : nat_lt 0 left ≡ false = grind (arith, nat_tests) in
    (subst (Appends a b) (sym (before.text ∙ ap (λ b. before.done ++ (if b then ended_line 1 else [])) t ∙ append-nil before.done)) before.written, before.ends ∙ t)

pub on_err_any : {T E : Type 0} (r : Result T E) (P : Type 0) → P → OnErr r P
on_err_any (Ok x) P h = tt
on_err_any (Err e) P h = h

pub on_ok_any : {T E : Type 0} (r : Result T E) (P : Type 0) → P → OnOk r P
on_ok_any (Ok x) P h = h
on_ok_any (Err e) P h = tt
