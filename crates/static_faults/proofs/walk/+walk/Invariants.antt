use Rattle.std.proofs.Common.{◌≡◌, [], ◌++◌, take}
use Rattle.brs_grammar.specs.declared.tree.Expression.{out-Expression}
use Rattle.brs_grammar.specs.declared.tree.Conjunction.{out-Conjunction}
use Rattle.brs_grammar.specs.declared.tree.Comparison.{out-Comparison}
use Rattle.brs_grammar.specs.declared.tree.Shift.{out-Shift}
use Rattle.brs_grammar.specs.declared.tree.Sum.{out-Sum}
use Rattle.brs_grammar.specs.declared.tree.Product.{out-Product}
use Rattle.static_faults.specs.First.{first_by_place}
use Rattle.static_faults.specs.Parts.{flat, and_part_faults, block_arm_faults, comparison_part_faults, conjunction_faults, expression_faults, line_arm_faults, minus_faults, negation_faults, or_part_faults, pair_faults, postfix_faults, print_item_faults, product_faults, product_part_faults, shift_faults, shift_part_faults, simple_faults, statement_faults, sum_faults, sum_part_faults, all_parameter_faults}
use Rattle.static_faults.proofs.walk.+walk.Given as goal

abbrev pub invariant-expression-loop-part : goal.invariant-expression-loop-part
invariant-expression-loop-part l = l.found ≡ first_by_place (conjunction_faults (out-Expression l.chain).first ++ flat or_part_faults (take l.part-index l.part-items))

abbrev pub invariant-conjunction-loop-part : goal.invariant-conjunction-loop-part
invariant-conjunction-loop-part l = l.found ≡ first_by_place (negation_faults (out-Conjunction l.chain).first ++ flat and_part_faults (take l.part-index l.part-items))

abbrev pub invariant-comparison-loop-part : goal.invariant-comparison-loop-part
invariant-comparison-loop-part l = l.found ≡ first_by_place (shift_faults (out-Comparison l.chain).first ++ flat comparison_part_faults (take l.part-index l.part-items))

abbrev pub invariant-shift-loop-part : goal.invariant-shift-loop-part
invariant-shift-loop-part l = l.found ≡ first_by_place (sum_faults (out-Shift l.chain).first ++ flat shift_part_faults (take l.part-index l.part-items))

abbrev pub invariant-sum-loop-part : goal.invariant-sum-loop-part
invariant-sum-loop-part l = l.found ≡ first_by_place (product_faults (out-Sum l.chain).first ++ flat sum_part_faults (take l.part-index l.part-items))

abbrev pub invariant-product-loop-part : goal.invariant-product-loop-part
invariant-product-loop-part l = l.found ≡ first_by_place (minus_faults (out-Product l.chain).first ++ flat product_part_faults (take l.part-index l.part-items))

abbrev pub invariant-postfixes-loop-item : goal.invariant-postfixes-loop-item
invariant-postfixes-loop-item l = l.found ≡ first_by_place (flat postfix_faults (take l.item-index l.items))

abbrev pub invariant-expressions-loop-item : goal.invariant-expressions-loop-item
invariant-expressions-loop-item l = l.found ≡ first_by_place (flat expression_faults (take l.item-index l.items))

abbrev pub invariant-pairs-loop-item : goal.invariant-pairs-loop-item
invariant-pairs-loop-item l = l.found ≡ first_by_place (flat pair_faults (take l.item-index l.items))

abbrev pub invariant-print_items-loop-item : goal.invariant-print_items-loop-item
invariant-print_items-loop-item l = l.found ≡ first_by_place (flat print_item_faults (take l.item-index l.items))

abbrev pub invariant-run-loop-item : goal.invariant-run-loop-item
invariant-run-loop-item l = l.found ≡ first_by_place (flat (simple_faults l.around) (take l.item-index l.items))

abbrev pub invariant-block_arms-loop-item : goal.invariant-block_arms-loop-item
invariant-block_arms-loop-item l = l.found ≡ first_by_place (flat (block_arm_faults l.around) (take l.item-index l.items))

abbrev pub invariant-line_arms-loop-item : goal.invariant-line_arms-loop-item
invariant-line_arms-loop-item l = l.found ≡ first_by_place (flat (line_arm_faults l.around) (take l.item-index l.items))

abbrev pub invariant-block-loop-item : goal.invariant-block-loop-item
invariant-block-loop-item l = l.found ≡ first_by_place (flat (statement_faults l.around) (take l.item-index l.items))

abbrev pub invariant-parameters-loop-i : goal.invariant-parameters-loop-i
invariant-parameters-loop-i l = l.found ≡ first_by_place (all_parameter_faults [] (take l.i l.all))
