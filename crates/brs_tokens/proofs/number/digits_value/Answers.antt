use Rattle.std.proofs.Common.{sym, ◌∙◌, arith}
use Rattle.std.proofs.lemmas.Grind.{common_steps}
use Rattle.brs_tokens.proofs.NumbersLemmas.{digits_at-grow, digits_end}
use Rattle.brs_tokens.proofs.number.digits_value.Goals as goal

pub returns-in_default : goal.returns-in_default
returns-in_default c fits =
    let grow = digits_at-grow c.args.radix c.loop-b.value c.args.digits.now c.loop-b.b-index c.requires.low (omega arith) in
    c.in_default.ensures (omega (arith, grow, c.loop-b.invariant.0))

pub returns-in_default-checked_add : goal.returns-in_default-checked_add
returns-in_default-checked_add c fits =
    let grow = digits_at-grow c.args.radix c.loop-b.value c.args.digits.now c.loop-b.b-index c.requires.low (omega arith) in
    c.in_default-checked_add.ensures (grind (arith, common_steps, grow, c.loop-b.invariant.0))

pub returns : goal.returns
returns c =
    let end = digits_end c.args.radix c.loop-b.value c.args.digits.now c.loop-b.b-index (omega arith) in
    let same = sym end ∙ c.loop-b.invariant.0 in
    (omega (arith, same), same)
