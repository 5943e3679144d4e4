use Rattle.std.proofs.Common.{◌-◌, length, refl, ◌∙◌, arith}
use Rattle.std.proofs.lemmas.Result.{on_ok_weaker}
use Rattle.brs_grammar.specs.View.{simple_of, statement_of, block_arm_of, line_arm_of}
use Rattle.code_drafts.specs.StatementCode.{print_item_code}
use Rattle.code_drafts.specs.TreeCode.{expression_code, or_part_code, and_part_code, comparison_part_code, shift_part_code, sum_part_code, product_part_code, pair_code}
use Rattle.code_drafts.proofs.Tails.{tails_begin, tails_more}
use Rattle.tree_code.proofs.Loops.{back_more, todos_more, arms_more}
use Rattle.tree_code.proofs.Callees.{code_begin, code_more, code_done, drafts_begin, drafts_more, drafts_done, optional_code}
use Rattle.tree_code.proofs.Ends.{function_done, operands_done, step_done}
use Rattle.tree_code.proofs.+walk.Goals as goal

-- ---- one more turn of each loop

pub expressions::or_parts-loop-i-preserved : goal.expressions::or_parts-loop-i-preserved
expressions::or_parts-loop-i-preserved t c = back_more or_part_code _ _ _ _ c.loop-i.i _ c.index-parts-parts.result (omega arith) refl c.index-parts-parts.is c.loop-i.invariant c.in_ok-or_part.ensures

pub expressions::and_parts-loop-i-preserved : goal.expressions::and_parts-loop-i-preserved
expressions::and_parts-loop-i-preserved t c = back_more and_part_code _ _ _ _ c.loop-i.i _ c.index-parts-parts.result (omega arith) refl c.index-parts-parts.is c.loop-i.invariant c.in_ok-and_part.ensures

pub expressions::comparison_parts-loop-i-preserved : goal.expressions::comparison_parts-loop-i-preserved
expressions::comparison_parts-loop-i-preserved t c = back_more comparison_part_code _ _ _ _ c.loop-i.i _ c.index-parts-parts.result (omega arith) refl c.index-parts-parts.is c.loop-i.invariant c.in_ok-comparison_part.ensures

pub expressions::shift_parts-loop-i-preserved : goal.expressions::shift_parts-loop-i-preserved
expressions::shift_parts-loop-i-preserved t c = back_more shift_part_code _ _ _ _ c.loop-i.i _ c.index-parts-parts.result (omega arith) refl c.index-parts-parts.is c.loop-i.invariant c.in_ok-shift_part.ensures

pub expressions::sum_parts-loop-i-preserved : goal.expressions::sum_parts-loop-i-preserved
expressions::sum_parts-loop-i-preserved t c = back_more sum_part_code _ _ _ _ c.loop-i.i _ c.index-parts-parts.result (omega arith) refl c.index-parts-parts.is c.loop-i.invariant c.in_ok-sum_part.ensures

pub expressions::product_parts-loop-i-preserved : goal.expressions::product_parts-loop-i-preserved
expressions::product_parts-loop-i-preserved t c = back_more product_part_code _ _ _ _ c.loop-i.i _ c.index-parts-parts.result (omega arith) refl c.index-parts-parts.is c.loop-i.invariant c.in_ok-product_part.ensures

pub expressions::expressions-loop-i-preserved : goal.expressions::expressions-loop-i-preserved
expressions::expressions-loop-i-preserved t c = back_more expression_code _ _ _ _ c.loop-i.i _ c.index-items-items.result (omega arith) refl c.index-items-items.is c.loop-i.invariant c.in_ok-expression.ensures

pub expressions::pairs-loop-i-preserved : goal.expressions::pairs-loop-i-preserved
expressions::pairs-loop-i-preserved t c = back_more pair_code _ _ _ _ c.loop-i.i _ c.index-items-items.result (omega arith) refl c.index-items-items.is c.loop-i.invariant c.in_ok-pair.ensures

pub statements::print_items-loop-i-preserved : goal.statements::print_items-loop-i-preserved
statements::print_items-loop-i-preserved t c = back_more print_item_code _ _ _ _ c.loop-i.i _ c.index-items-items.result (omega arith) refl c.index-items-items.is c.loop-i.invariant c.in_ok-print_item.ensures

pub expressions::postfixes-loop-i-preserved : goal.expressions::postfixes-loop-i-preserved
expressions::postfixes-loop-i-preserved t c = tails_more _ _ _ _ _ c.loop-i.i _ c.index-parts-at.result _ _ (omega arith) c.requires refl c.index-parts-at.is c.in_ok-before.ensures c.is_called-called.ensures c.loop-i.invariant c.in_ok-postfix.ensures

pub statements::run-loop-i-preserved : goal.statements::run-loop-i-preserved
statements::run-loop-i-preserved t c = todos_more simple_of _ _ _ _ _ _ c.loop-i.i _ c.index-items-items.result (omega arith) refl c.index-items-items.is c.loop-i.invariant c.len.ensures c.in_ok-there.ensures c.in_ok-simple.ensures

pub statements::block-loop-i-preserved : goal.statements::block-loop-i-preserved
statements::block-loop-i-preserved t c = todos_more statement_of _ _ _ _ _ _ c.loop-i.i _ c.index-items-items.result (omega arith) refl c.index-items-items.is c.loop-i.invariant c.len.ensures c.in_ok-there.ensures c.in_ok-statement.ensures

pub statements::block_arms-loop-i-preserved : goal.statements::block_arms-loop-i-preserved
statements::block_arms-loop-i-preserved t c = arms_more block_arm_of _ _ _ _ _ c.loop-i.i _ c.index-arms-arms.result (omega arith) refl c.index-arms-arms.is c.loop-i.invariant c.in_ok-block_arm.ensures

pub statements::line_arms-loop-i-preserved : goal.statements::line_arms-loop-i-preserved
statements::line_arms-loop-i-preserved t c = arms_more line_arm_of _ _ _ _ _ c.loop-i.i _ c.index-arms-arms.result (omega arith) refl c.index-arms-arms.is c.loop-i.invariant c.in_ok-line_arm.ensures

pub functions::parameters-loop-i-preserved : goal.functions::parameters-loop-i-preserved
functions::parameters-loop-i-preserved t c = (
  code_more _ _ _ _ c.loop-i.i _ c.index-all-number.result (omega arith) refl c.index-all-number.is c.loop-i.invariant.0 c.in_ok-default.ensures,
  drafts_more _ _ _ _ _ _ c.loop-i.i _ _ c.index-all-number.result _ (omega arith) refl c.index-all-number.is c.loop-i.invariant.0 c.loop-i.invariant.1 c.in_ok-default.ensures c.len.ensures c.in_ok-draft_parameter.ensures c.in-Ok.ensures.ok,
)

-- ---- where a loop begins

pub expressions::postfixes-loop-i-init : goal.expressions::postfixes-loop-i-init
expressions::postfixes-loop-i-init t c = tails_begin c.args.parts.now c.args.code.now c.args.count

pub functions::parameters-loop-i-init : goal.functions::parameters-loop-i-init
functions::parameters-loop-i-init t c = (code_begin c.args.all.now c.args.code.now, c.new-drafts.ensures ∙ drafts_begin c.args.all.now c.args.code.now)

-- ---- returns

pub functions::default-returns-in_ok-push-in-Some : goal.functions::default-returns-in_ok-push-in-Some
functions::default-returns-in_ok-push-in-Some t c =
    on_ok_weaker c.expression.result (optional_code c.args.number c.args.x.now c.in-Some.value c.args.code.now c.push.new.self c.expression.new.code c.in-Some.is c.in_ok-push-in-Some.ensures) c.expression.ensures

pub functions::function-returns : goal.functions::function-returns
functions::function-returns t c =
    function_done c.args.line c.args.rest.now _ _ _ _ _ _ _ _ _ _ _ _ _ c.no_loops.ensures c.as_slice.ensures c.as_slice-all.ensures c.new-code.ensures c.in_ok-push.ensures c.in_ok-block.ensures c.in_ok-append.ensures c.len-size.ensures
    c.in_ok-drafts.ensures.code c.in_ok-drafts.ensures.drafts c.value_type-value.ensures c.needed.ensures c.into_items.ensures

pub functions::parameters-returns-clause-code : goal.functions::parameters-returns-clause-code
functions::parameters-returns-clause-code t c = code_done c.args.all.now c.args.code.now c.loop-i.code c.loop-i.i (omega arith) c.loop-i.invariant.0

pub functions::parameters-returns-clause-drafts : goal.functions::parameters-returns-clause-drafts
functions::parameters-returns-clause-drafts t c = drafts_done c.args.all.now c.args.code.now c.loop-i.drafts c.loop-i.i (omega arith) c.loop-i.invariant.1

pub statements::operands-returns : goal.statements::operands-returns
statements::operands-returns t c =
    on_ok_weaker c.push.result
    (operands_done c.args.name.now c.args.more.now c.index-more-at.result (length c.args.more.now - 1) c.args.code.now c.last_operands.new.code c.postfixes.new.code c.push.new.self _ (λ z. omega arith) refl c.index-more-at.is
    c.in_ok-last_operands.ensures c.in_ok-postfixes.ensures c.in_ok-name_draft.ensures)
    c.push.ensures

pub statements::statement-returns-in_ok-expression-in-Some-step-2 :
    goal.statements::statement-returns-in_ok-expression-in-Some-step-2
statements::statement-returns-in_ok-expression-in-Some-step-2 t c =
    on_ok_weaker c.expression-in-Some-step-3.result
    (step_done c.args.exits _ c.args.statement.now c.in-For.place c.in-For.variable c.in-For.start c.in-For.end c.in-Some-step.step c.in-For.step c.in-For.inner _ _ c.args.code.now _ _ _ c.expression-in-Some-step-3.new.code _ _ _
    c.in-For.is c.in-Some-step.is c.in_ok-inside_for-in-For.ensures c.as_slice-in-For.ensures c.in_ok-body-in-For.ensures c.in_ok-for_loop-in-Some-step.ensures c.get-in-Some-step.ensures c.in_ok-expression-in-Some-step.ensures
    c.get-in-Some-step-2.ensures c.in_ok-expression-in-Some-step-2.ensures c.get-in-Some-step-3.ensures)
    c.expression-in-Some-step-3.ensures
