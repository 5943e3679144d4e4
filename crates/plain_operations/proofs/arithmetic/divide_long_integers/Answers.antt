use Rattle.std.proofs.Common.{rules, FitsSigned, of_z, w64, ap, lit<}
use Rattle.plain_operations.specs.Outcome.{LongInteger}
use Rattle.plain_operations.proofs.Wraps.{div_is, not_zero}
use Rattle.plain_operations.proofs.arithmetic.divide_long_integers.Goals as goal

pub returns : goal.returns
returns c =
    let f : FitsSigned w64 c.wrapping_div.result = search rules in
    let e = ap LongInteger (div_is w64 c.args.a c.args.b c.wrapping_div.result c.ranges.a c.ranges.b f (lit< tt) c.wrapping_div.ensures) in
    let n = not_zero c.args.b (λ x. c.if-b-eq0.false (ap (of_z w64) x)) in
    rw n e
