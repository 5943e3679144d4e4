use Rattle.std.proofs.Common.{rules, FitsSigned, of_z, w32, ap, lit<}
use Rattle.plain_operations.specs.Outcome.{Integer}
use Rattle.plain_operations.proofs.Wraps.{div_is, not_zero}
use Rattle.plain_operations.proofs.arithmetic.divide_integers.Goals as goal

pub returns : goal.returns
returns c =
    let f : FitsSigned w32 c.wrapping_div.result = search rules in
    let e = ap Integer (div_is w32 c.args.a c.args.b c.wrapping_div.result c.ranges.a c.ranges.b f (lit< tt) c.wrapping_div.ensures) in
    let n = not_zero c.args.b (λ x. c.if-b-eq0.false (ap (of_z w32) x)) in
    rw n e
