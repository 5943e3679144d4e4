use Rattle.std.proofs.Common.{◌≡◌, ◌+◌, ◌&&◌, ◌||◌, true, false, drop, sym, ◌∙◌, ap, refl, subst, arith}
use Rattle.std.proofs.lemmas.Bool.{false≢true, and_parts}
use Rattle.ecp_requests.specs.EmptyLines.{begins_empty_line}
use Rattle.ecp_requests.proofs.EmptyLinesLemmas.{Scanned, scanned_start, scanned_more, found_here, none_at_all, whole_rest}
use Rattle.ecp_requests.proofs.empty_line.has_empty_line.Goals as goal

pub loop-at-init : goal.loop-at-init
loop-at-init c = scanned_start c.args.bytes.now

pub loop-at-preserved : goal.loop-at-preserved
loop-at-preserved c =
    let none : (c.loop-at.begun && begins_empty_line (drop c.loop-at.at c.args.bytes.now)) ≡ false =
    ap (λ rest. c.loop-at.begun && begins_empty_line rest) (sym (whole_rest c.args.bytes.now c.loop-at.at))
    ∙ sym c.begun_and_empty.ensures ∙ c.if-begun_and_empty.false in
    subst (λ t. Scanned c.args.bytes.now (c.loop-at.at + 1) (c.loop-at.begun || t)) (sym c.is_text-begun.ensures)
    (scanned_more c.args.bytes.now c.loop-at.at c.loop-at.begun c.loop-at.invariant none)

pub returns-then-begun_and_empty : goal.returns-then-begun_and_empty
returns-then-begun_and_empty c =
    let some : (c.loop-at.begun && begins_empty_line (drop c.loop-at.at c.args.bytes.now)) ≡ true =
    ap (λ rest. c.loop-at.begun && begins_empty_line rest) (sym (whole_rest c.args.bytes.now c.loop-at.at))
    ∙ sym c.begun_and_empty.ensures ∙ c.if-begun_and_empty.true in
    let parts = and_parts _ _ some in
    (λ _. found_here c.args.bytes.now c.loop-at.at c.loop-at.begun c.loop-at.invariant parts.0 parts.1, λ _. refl)

pub returns : goal.returns
returns c = (
  λ e. absurd (false≢true e),
  λ h. absurd (none_at_all c.args.bytes.now c.loop-at.at c.loop-at.begun (omega arith) c.loop-at.invariant h),
)
