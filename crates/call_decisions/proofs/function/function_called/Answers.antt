use Rattle.std.proofs.Common.{arith}
use Rattle.call_decisions.proofs.CallLaws.{source_is, built_in_is, nothing_is}
use Rattle.call_decisions.proofs.function.function_called.Goals as goal

pub returns-then-number-count : goal.returns-then-number-count
returns-then-number-count c = λ image same many. source_is c.args.code.now image c.args.n c.function_count-count.result same c.function_count-count.ensures (omega (arith, c.if-number-count.true))

pub returns-then-number-count-2 : goal.returns-then-number-count-2
returns-then-number-count-2 c = λ image same many.
    built_in_is c.args.code.now image c.args.n c.function_count-count.result c.args.built_ins same c.function_count-count.ensures many (omega (arith, c.ranges.n.fits)) (omega (arith, c.if-number-count.false)) (omega (arith, c.if-number-count-2.true))

pub returns-else-number-count-2 : goal.returns-else-number-count-2
returns-else-number-count-2 c = λ image same many.
    nothing_is c.args.code.now image c.args.n c.function_count-count.result c.args.built_ins same c.function_count-count.ensures many (omega (arith, c.ranges.n.fits)) (omega (arith, c.if-number-count.false)) (omega (arith, c.if-number-count-2.false))
