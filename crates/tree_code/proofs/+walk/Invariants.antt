use Rattle.std.proofs.Common.{◌≡◌, ◌++◌, ◌-◌, length, map, take, drop}
use Rattle.std.specs.Prelude.{reverse}
use Rattle.brs_grammar.specs.View.{todos, simple_of, statement_of, block_arm_of, line_arm_of, postfix_of}
use Rattle.code_drafts.specs.DraftCode.{flat, tails_code, name_before, todo_code}
use Rattle.code_drafts.specs.StatementCode.{choices_code, print_item_code}
use Rattle.code_drafts.specs.TreeCode.{expression_code, or_part_code, and_part_code, comparison_part_code, shift_part_code, sum_part_code, product_part_code, pair_code}
use Rattle.tree_code.proofs.Callees.{code_from, drafts_from}
use Rattle.tree_code.proofs.+walk.Given as goal

abbrev pub invariant-expressions::or_parts-loop-i : goal.invariant-expressions::or_parts-loop-i
invariant-expressions::or_parts-loop-i l = l.code ≡ flat or_part_code (drop (length l.parts - l.i) l.parts) ++ l.fn.code

abbrev pub invariant-expressions::and_parts-loop-i : goal.invariant-expressions::and_parts-loop-i
invariant-expressions::and_parts-loop-i l = l.code ≡ flat and_part_code (drop (length l.parts - l.i) l.parts) ++ l.fn.code

abbrev pub invariant-expressions::comparison_parts-loop-i : goal.invariant-expressions::comparison_parts-loop-i
invariant-expressions::comparison_parts-loop-i l = l.code ≡ flat comparison_part_code (drop (length l.parts - l.i) l.parts) ++ l.fn.code

abbrev pub invariant-expressions::shift_parts-loop-i : goal.invariant-expressions::shift_parts-loop-i
invariant-expressions::shift_parts-loop-i l = l.code ≡ flat shift_part_code (drop (length l.parts - l.i) l.parts) ++ l.fn.code

abbrev pub invariant-expressions::sum_parts-loop-i : goal.invariant-expressions::sum_parts-loop-i
invariant-expressions::sum_parts-loop-i l = l.code ≡ flat sum_part_code (drop (length l.parts - l.i) l.parts) ++ l.fn.code

abbrev pub invariant-expressions::product_parts-loop-i : goal.invariant-expressions::product_parts-loop-i
invariant-expressions::product_parts-loop-i l = l.code ≡ flat product_part_code (drop (length l.parts - l.i) l.parts) ++ l.fn.code

abbrev pub invariant-expressions::expressions-loop-i : goal.invariant-expressions::expressions-loop-i
invariant-expressions::expressions-loop-i l = l.code ≡ flat expression_code (drop (length l.items - l.i) l.items) ++ l.fn.code

abbrev pub invariant-expressions::pairs-loop-i : goal.invariant-expressions::pairs-loop-i
invariant-expressions::pairs-loop-i l = l.code ≡ flat pair_code (drop (length l.items - l.i) l.items) ++ l.fn.code

abbrev pub invariant-statements::print_items-loop-i : goal.invariant-statements::print_items-loop-i
invariant-statements::print_items-loop-i l = l.code ≡ flat print_item_code (drop (length l.items - l.i) l.items) ++ l.fn.code

abbrev pub invariant-expressions::postfixes-loop-i : goal.invariant-expressions::postfixes-loop-i
invariant-expressions::postfixes-loop-i l = l.code ≡ tails_code (name_before (map postfix_of l.parts) (l.count - l.i)) (drop (l.count - l.i) (take l.count (map postfix_of l.parts))) ++ l.fn.code

abbrev pub invariant-statements::run-loop-i : goal.invariant-statements::run-loop-i
invariant-statements::run-loop-i l = l.code ≡ todo_code l.exits (todos (map simple_of (drop (length l.items - l.i) l.items)))

abbrev pub invariant-statements::block-loop-i : goal.invariant-statements::block-loop-i
invariant-statements::block-loop-i l = l.code ≡ todo_code l.exits (todos (map statement_of (drop (length l.items - l.i) l.items)))

abbrev pub invariant-statements::block_arms-loop-i : goal.invariant-statements::block_arms-loop-i
invariant-statements::block_arms-loop-i l = l.chain ≡ choices_code l.exits (map block_arm_of (drop (length l.arms - l.i) l.arms)) l.fn.chain

abbrev pub invariant-statements::line_arms-loop-i : goal.invariant-statements::line_arms-loop-i
invariant-statements::line_arms-loop-i l = l.chain ≡ choices_code l.exits (map line_arm_of (drop (length l.arms - l.i) l.arms)) l.fn.chain

abbrev pub invariant-functions::parameters-loop-i : goal.invariant-functions::parameters-loop-i
invariant-functions::parameters-loop-i l = (l.code ≡ code_from l.all (length l.all - l.i) l.fn.code) × (l.drafts ≡ reverse (drafts_from l.all (length l.all - l.i) l.fn.code))
