use Rattle.std.proofs.Common.{rules, FitsSigned, of_z, to_z, w32, sym, ◌∙◌}
use Rattle.std.proofs.lemmas.Int.{to_z-of_z}
use Rattle.plain_operations.proofs.Digits.{reads_more}
use Rattle.plain_operations.proofs.numerals.leading_number.Goals as goal

pub loop-digit-preserved : goal.loop-digit-preserved
loop-digit-preserved c =
    let r = c.with_digit-number.result in
    let f : FitsSigned w32 r = search rules in
    let e = sym c.is_ascii_digit.ensures.value ∙ c.if-not-is_ascii_digit.false in
    reads_more c.args.s.now c.loop-digit.digit-index (to_z w32 c.loop-digit.number-bits) (to_z w32 (of_z w32 r)) c.loop-digit-test.true e (to_z-of_z w32 r f ∙ c.with_digit-number.ensures) c.loop-digit.invariant
