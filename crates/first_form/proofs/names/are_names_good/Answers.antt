use Rattle.std.proofs.Common.{◌≡◌, List, ℕ, false, sym, ap, ◌∙◌, rules, arith}
use Rattle.std.specs.BTreeSet.{contains_text}
use Rattle.first_form.specs.FirstKnown.{line_in, known_after}
use Rattle.first_form.proofs.KnownNames.{names_good-listed, line_refused, line_passed, lines_over}
use Rattle.first_form.proofs.names.are_names_good.Goals as goal

pub loop-line-init : goal.loop-line-init
loop-line-init c =
    let none : (name : List ℕ) → contains_text c.new-known.result name ≡ false = λ name. search rules in
    names_good-listed (contains_text c.new-known.result) none c.args.lines.now

pub returns-then-not-is_line_good : goal.returns-then-not-is_line_good
returns-then-not-is_line_good c =
    let known = contains_text c.loop-line.known in
    line_refused known c.args.lines.now c.loop-line.line-index c.line-item.result _ (omega arith) c.loop-line.invariant
    (ap (line_in known) (sym c.line-item.is) ∙ sym c.is_line_good.ensures ∙ c.if-not-is_line_good.true)

pub loop-line-preserved : goal.loop-line-preserved
loop-line-preserved c =
    let known = contains_text c.loop-line.known in
    line_passed known (contains_text c.learn.new.known) c.args.lines.now c.loop-line.line-index c.line-item.result _ (omega arith) c.loop-line.invariant
    (ap (line_in known) (sym c.line-item.is) ∙ sym c.is_line_good.ensures ∙ c.if-not-is_line_good.false)
    (λ name. c.in_ok-learn.ensures name ∙ ap (λ l. known_after known l name) c.line-item.is)

pub returns : goal.returns
returns c = lines_over (contains_text c.loop-line.known) c.args.lines.now c.loop-line.line-index _ (omega arith) c.loop-line.invariant
