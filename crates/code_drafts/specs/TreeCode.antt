-- The code of each part of a tree.
use Rattle.std.specs.Prelude.{List}
use Rattle.brs_grammar.specs.declared.tree.AndPart.{AndPart}
use Rattle.brs_grammar.specs.declared.tree.Comparison.{Comparison}
use Rattle.brs_grammar.specs.declared.tree.ComparisonPart.{ComparisonPart}
use Rattle.brs_grammar.specs.declared.tree.Conjunction.{Conjunction}
use Rattle.brs_grammar.specs.declared.tree.Expression.{Expression}
use Rattle.brs_grammar.specs.declared.tree.Minus.{Minus}
use Rattle.brs_grammar.specs.declared.tree.Negation.{Negation}
use Rattle.brs_grammar.specs.declared.tree.OrPart.{OrPart}
use Rattle.brs_grammar.specs.declared.tree.Pair.{Pair}
use Rattle.brs_grammar.specs.declared.tree.Primary.{Primary}
use Rattle.brs_grammar.specs.declared.tree.Product.{Product}
use Rattle.brs_grammar.specs.declared.tree.ProductPart.{ProductPart}
use Rattle.brs_grammar.specs.declared.tree.Shift.{Shift}
use Rattle.brs_grammar.specs.declared.tree.ShiftPart.{ShiftPart}
use Rattle.brs_grammar.specs.declared.tree.Sum.{Sum}
use Rattle.brs_grammar.specs.declared.tree.SumPart.{SumPart}
use Rattle.brs_grammar.specs.declared.tree.Value.{Value}
use Rattle.brs_grammar.specs.View.{minus_of, negation_of, primary_of, and_part_of, comparison_of, comparison_part_of, conjunction_of, expression_of, or_part_of, pair_of, product_of, product_part_of, shift_of, shift_part_of, sum_of, sum_part_of, value_of}
use Rattle.code_drafts.specs.declared.draft.Draft.{Draft}
use Rattle.code_drafts.specs.DraftCode.{form_code, operand_code}

abbrev pub expression_code : Expression → List Draft
expression_code e = form_code (expression_of e)

abbrev pub or_part_code : OrPart → List Draft
or_part_code x = operand_code (or_part_of x)

abbrev pub conjunction_code : Conjunction → List Draft
conjunction_code e = form_code (conjunction_of e)

abbrev pub and_part_code : AndPart → List Draft
and_part_code x = operand_code (and_part_of x)

abbrev pub negation_code : Negation → List Draft
negation_code e = form_code (negation_of e)

abbrev pub comparison_code : Comparison → List Draft
comparison_code e = form_code (comparison_of e)

abbrev pub comparison_part_code : ComparisonPart → List Draft
comparison_part_code x = operand_code (comparison_part_of x)

abbrev pub shift_code : Shift → List Draft
shift_code e = form_code (shift_of e)

abbrev pub shift_part_code : ShiftPart → List Draft
shift_part_code x = operand_code (shift_part_of x)

abbrev pub sum_code : Sum → List Draft
sum_code e = form_code (sum_of e)

abbrev pub sum_part_code : SumPart → List Draft
sum_part_code x = operand_code (sum_part_of x)

abbrev pub product_code : Product → List Draft
product_code e = form_code (product_of e)

abbrev pub product_part_code : ProductPart → List Draft
product_part_code x = operand_code (product_part_of x)

abbrev pub minus_code : Minus → List Draft
minus_code e = form_code (minus_of e)

abbrev pub value_code : Value → List Draft
value_code e = form_code (value_of e)

abbrev pub primary_code : Primary → List Draft
primary_code e = form_code (primary_of e)

-- the value of a pair
abbrev pub pair_code : Pair → List Draft
pair_code x = form_code (pair_of x).value
