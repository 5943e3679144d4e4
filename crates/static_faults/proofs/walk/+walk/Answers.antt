use Rattle.std.proofs.Common.{[], sym, ap, ◌∙◌, arith}
use Rattle.brs_grammar.specs.declared.tree.Expression.{out-Expression}
use Rattle.brs_grammar.specs.declared.tree.Conjunction.{out-Conjunction}
use Rattle.brs_grammar.specs.declared.tree.Comparison.{out-Comparison}
use Rattle.brs_grammar.specs.declared.tree.Shift.{out-Shift}
use Rattle.brs_grammar.specs.declared.tree.Sum.{out-Sum}
use Rattle.brs_grammar.specs.declared.tree.Product.{out-Product}
use Rattle.static_faults.specs.First.{first_by_place}
use Rattle.static_faults.specs.Parts.{and_part_faults, block_arm_faults, comparison_part_faults, conjunction_faults, expression_faults, line_arm_faults, minus_faults, negation_faults, or_part_faults, pair_faults, postfix_faults, print_item_faults, product_faults, product_part_faults, shift_faults, shift_part_faults, simple_faults, statement_faults, sum_faults, sum_part_faults}
use Rattle.static_faults.proofs.Walked.{flat_more, flat_done, parameters_more, expression_is, conjunction_is, comparison_is, shift_is, sum_is, product_is, or_part_is, and_part_is, comparison_part_is, shift_part_is, sum_part_is, product_part_is}
use Rattle.static_faults.proofs.walk.+walk.Goals as goal

pub expression-loop-part-preserved : goal.expression-loop-part-preserved
expression-loop-part-preserved t c = flat_more (conjunction_faults (out-Expression c.args.chain.now).first) or_part_faults _ _ _ _ c.loop-part.part-index c.part-item.result (omega arith) c.part-item.is c.loop-part.invariant (c.conjunction.ensures ∙ ap first_by_place (sym (or_part_is c.part-item.result))) c.earlier-found.ensures

pub conjunction-loop-part-preserved : goal.conjunction-loop-part-preserved
conjunction-loop-part-preserved t c = flat_more (negation_faults (out-Conjunction c.args.chain.now).first) and_part_faults _ _ _ _ c.loop-part.part-index c.part-item.result (omega arith) c.part-item.is c.loop-part.invariant (c.negation.ensures ∙ ap first_by_place (sym (and_part_is c.part-item.result))) c.earlier-found.ensures

pub comparison-loop-part-preserved : goal.comparison-loop-part-preserved
comparison-loop-part-preserved t c = flat_more (shift_faults (out-Comparison c.args.chain.now).first) comparison_part_faults _ _ _ _ c.loop-part.part-index c.part-item.result (omega arith) c.part-item.is c.loop-part.invariant (c.shift.ensures ∙ ap first_by_place (sym (comparison_part_is c.part-item.result))) c.earlier-found.ensures

pub shift-loop-part-preserved : goal.shift-loop-part-preserved
shift-loop-part-preserved t c = flat_more (sum_faults (out-Shift c.args.chain.now).first) shift_part_faults _ _ _ _ c.loop-part.part-index c.part-item.result (omega arith) c.part-item.is c.loop-part.invariant (c.sum.ensures ∙ ap first_by_place (sym (shift_part_is c.part-item.result))) c.earlier-found.ensures

pub sum-loop-part-preserved : goal.sum-loop-part-preserved
sum-loop-part-preserved t c = flat_more (product_faults (out-Sum c.args.chain.now).first) sum_part_faults _ _ _ _ c.loop-part.part-index c.part-item.result (omega arith) c.part-item.is c.loop-part.invariant (c.product.ensures ∙ ap first_by_place (sym (sum_part_is c.part-item.result))) c.earlier-found.ensures

pub product-loop-part-preserved : goal.product-loop-part-preserved
product-loop-part-preserved t c = flat_more (minus_faults (out-Product c.args.chain.now).first) product_part_faults _ _ _ _ c.loop-part.part-index c.part-item.result (omega arith) c.part-item.is c.loop-part.invariant (c.minus.ensures ∙ ap first_by_place (sym (product_part_is c.part-item.result))) c.earlier-found.ensures

pub postfixes-loop-item-preserved : goal.postfixes-loop-item-preserved
postfixes-loop-item-preserved t c = flat_more [] postfix_faults _ _ _ c.args.items.now c.loop-item.item-index c.item-item.result (omega arith) c.item-item.is c.loop-item.invariant c.postfix.ensures c.earlier-found.ensures

pub expressions-loop-item-preserved : goal.expressions-loop-item-preserved
expressions-loop-item-preserved t c = flat_more [] expression_faults _ _ _ c.args.items.now c.loop-item.item-index c.item-item.result (omega arith) c.item-item.is c.loop-item.invariant c.expression.ensures c.earlier-found.ensures

pub pairs-loop-item-preserved : goal.pairs-loop-item-preserved
pairs-loop-item-preserved t c = flat_more [] pair_faults _ _ _ c.args.items.now c.loop-item.item-index c.item-item.result (omega arith) c.item-item.is c.loop-item.invariant c.pair.ensures c.earlier-found.ensures

pub print_items-loop-item-preserved : goal.print_items-loop-item-preserved
print_items-loop-item-preserved t c = flat_more [] print_item_faults _ _ _ c.args.items.now c.loop-item.item-index c.item-item.result (omega arith) c.item-item.is c.loop-item.invariant c.print_item.ensures c.earlier-found.ensures

pub run-loop-item-preserved : goal.run-loop-item-preserved
run-loop-item-preserved t c = flat_more [] (simple_faults c.args.around) _ _ _ c.args.items.now c.loop-item.item-index c.item-item.result (omega arith) c.item-item.is c.loop-item.invariant c.simple.ensures c.earlier-found.ensures

pub block_arms-loop-item-preserved : goal.block_arms-loop-item-preserved
block_arms-loop-item-preserved t c = flat_more [] (block_arm_faults c.args.around) _ _ _ c.args.items.now c.loop-item.item-index c.item-item.result (omega arith) c.item-item.is c.loop-item.invariant c.block_arm.ensures c.earlier-found.ensures

pub line_arms-loop-item-preserved : goal.line_arms-loop-item-preserved
line_arms-loop-item-preserved t c = flat_more [] (line_arm_faults c.args.around) _ _ _ c.args.items.now c.loop-item.item-index c.item-item.result (omega arith) c.item-item.is c.loop-item.invariant c.line_arm.ensures c.earlier-found.ensures

pub block-loop-item-preserved : goal.block-loop-item-preserved
block-loop-item-preserved t c = flat_more [] (statement_faults c.args.around) _ _ _ c.args.items.now c.loop-item.item-index c.item-item.result (omega arith) c.item-item.is c.loop-item.invariant c.statement.ensures c.earlier-found.ensures

pub parameters-loop-i-preserved : goal.parameters-loop-i-preserved
parameters-loop-i-preserved t c =
    parameters_more _ _ _ _ _ c.args.all.now c.loop-i.i c.index-all-i.result (omega arith) c.index-all-i.is c.loop-i.invariant c.parameter_fault-own.ensures c.default.ensures c.earlier.ensures c.earlier-found.ensures

pub expression-returns : goal.expression-returns
expression-returns t c = flat_done (conjunction_faults (out-Expression c.args.chain.now).first) or_part_faults _ _ _ c.loop-part.part-index _ (omega arith) c.as_slice-part-items.ensures c.loop-part.invariant (expression_is c.args.chain.now)

pub conjunction-returns : goal.conjunction-returns
conjunction-returns t c = flat_done (negation_faults (out-Conjunction c.args.chain.now).first) and_part_faults _ _ _ c.loop-part.part-index _ (omega arith) c.as_slice-part-items.ensures c.loop-part.invariant (conjunction_is c.args.chain.now)

pub comparison-returns : goal.comparison-returns
comparison-returns t c = flat_done (shift_faults (out-Comparison c.args.chain.now).first) comparison_part_faults _ _ _ c.loop-part.part-index _ (omega arith) c.as_slice-part-items.ensures c.loop-part.invariant (comparison_is c.args.chain.now)

pub shift-returns : goal.shift-returns
shift-returns t c = flat_done (sum_faults (out-Shift c.args.chain.now).first) shift_part_faults _ _ _ c.loop-part.part-index _ (omega arith) c.as_slice-part-items.ensures c.loop-part.invariant (shift_is c.args.chain.now)

pub sum-returns : goal.sum-returns
sum-returns t c = flat_done (product_faults (out-Sum c.args.chain.now).first) sum_part_faults _ _ _ c.loop-part.part-index _ (omega arith) c.as_slice-part-items.ensures c.loop-part.invariant (sum_is c.args.chain.now)

pub product-returns : goal.product-returns
product-returns t c = flat_done (minus_faults (out-Product c.args.chain.now).first) product_part_faults _ _ _ c.loop-part.part-index _ (omega arith) c.as_slice-part-items.ensures c.loop-part.invariant (product_is c.args.chain.now)
