use Rattle.std.proofs.Common.{◌≡◌, arith, ap, sym, subst, ◌∙◌, rules, false}
use Rattle.copy_meaning.specs.Unfolding.{Chain}
use Rattle.copy_meaning.specs.Forms.{form_at}
use Rattle.brs_copy.specs.Marks.{Marks, is_marked_in}
use Rattle.brs_copy.proofs.Marking.{no_longer, value_marked}
use Rattle.brs_copy.proofs.chain.begins_chain.Goals as goal

pub returns-then-not-is_marked : goal.returns-then-not-is_marked
returns-then-not-is_marked c =
    let e : is_marked_in c.loop-round.marks.items c.args.v.now ≡ false = search rules in
    (λ t. absurd cc, no_longer c.args.heap.now c.loop-round.round c.args.count c.loop-round.marks.items c.args.v.now c.loop-round.invariant (omega arith) (omega arith) e)

pub loop-round-preserved : goal.loop-round-preserved
loop-round-preserved c =
    c.in_ok-marks-2.ensures c.loop-round.round (omega arith) (subst (Marks c.args.heap.now c.loop-round.round) (sym c.deref-in-loop-round.ensures.value) c.loop-round.invariant)

pub returns : goal.returns
returns c =
    let e = c.is_marked-2.ensures ∙ ap (λ m. is_marked_in m c.args.v.now) c.deref-2.ensures.value in
    let m = value_marked c.args.heap.now c.loop-round.round c.loop-round.marks.items c.loop-round.invariant c.args.v.now (omega arith) in
    let n : c.loop-round.round ≡ c.args.count = omega arith in
    (λ t. subst (λ x. Chain (form_at c.args.heap.now) x c.args.v.now) n (m.0 (sym e ∙ t)), λ x. e ∙ m.1 (subst (λ x. Chain (form_at c.args.heap.now) x c.args.v.now) (sym n) x))
