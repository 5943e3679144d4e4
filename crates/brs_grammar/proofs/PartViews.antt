-- What each part of an expression and each struct is, from what its parts are: one equation for each.
use Rattle.std.proofs.Common.{◌≡◌, true, false, List, map, Option, None, Some, ap, sym, ◌∙◌}
use Rattle.chan_values.specs.Folded.{folded}
use Rattle.brs_tokens.specs.declared.place.Place.{Place}
use Rattle.brs_grammar.specs.declared.tree.Minus.TheOpen as o
use Rattle.brs_grammar.specs.declared.tree.Minus.TheFolds as f
use Rattle.brs_grammar.specs.declared.tree.Minus.TheViews.{roll-out-Parameter}
use Rattle.brs_grammar.specs.declared.tree.Name.{Name}
use Rattle.brs_grammar.specs.declared.tree.TypeWord.{TypeWord}
use Rattle.brs_grammar.specs.declared.tree.Minus.{Minus}
use Rattle.brs_grammar.specs.declared.tree.Minus.TheVariants as minus
use Rattle.brs_grammar.specs.declared.tree.Negation.{Negation}
use Rattle.brs_grammar.specs.declared.tree.Negation.TheVariants as negation
use Rattle.brs_grammar.specs.declared.tree.Postfix.TheVariants as postfix
use Rattle.brs_grammar.specs.declared.tree.Primary.TheVariants as primary
use Rattle.brs_grammar.specs.declared.tree.AndPart.{AndPart, out-AndPart}
use Rattle.brs_grammar.specs.declared.tree.BlockArm.{BlockArm, out-BlockArm}
use Rattle.brs_grammar.specs.declared.tree.Comparison.{Comparison, out-Comparison}
use Rattle.brs_grammar.specs.declared.tree.ComparisonPart.{ComparisonPart, out-ComparisonPart}
use Rattle.brs_grammar.specs.declared.tree.Conjunction.{Conjunction, out-Conjunction}
use Rattle.brs_grammar.specs.declared.tree.Expression.{Expression, out-Expression}
use Rattle.brs_grammar.specs.declared.tree.LineArm.{LineArm, out-LineArm}
use Rattle.brs_grammar.specs.declared.tree.OrPart.{OrPart, out-OrPart}
use Rattle.brs_grammar.specs.declared.tree.Pair.{Pair, out-Pair}
use Rattle.brs_grammar.specs.declared.tree.Parameter.{Parameter, out-Parameter, roll-Parameter}
use Rattle.brs_grammar.specs.declared.tree.Product.{Product, out-Product}
use Rattle.brs_grammar.specs.declared.tree.ProductPart.{ProductPart, out-ProductPart}
use Rattle.brs_grammar.specs.declared.tree.Rest.{Rest, out-Rest}
use Rattle.brs_grammar.specs.declared.tree.Shift.{Shift, out-Shift}
use Rattle.brs_grammar.specs.declared.tree.ShiftPart.{ShiftPart, out-ShiftPart}
use Rattle.brs_grammar.specs.declared.tree.Sum.{Sum, out-Sum}
use Rattle.brs_grammar.specs.declared.tree.SumPart.{SumPart, out-SumPart}
use Rattle.brs_grammar.specs.declared.tree.Target.{Target, out-Target}
use Rattle.brs_grammar.specs.declared.tree.Value.{Value, out-Value}
use Rattle.brs_grammar.specs.Form as p
use Rattle.brs_grammar.specs.Form.{Text, Node, none, more, finish}
use Rattle.brs_grammar.specs.View.{minus_of, negation_of, postfix_of, primary_of, print_item_of, simple_of, statement_of, and_part_of, block_arm_of, comparison_of, comparison_part_of, conjunction_of, expression_of, line_arm_of, or_part_of, pair_of, parameter_of, product_of, product_part_of, rest_of, shift_of, shift_part_of, sum_of, sum_part_of, target_of, value_of, Formal, member, index, arguments, key_of, forms, todos, params, chained, tailed, variable}

pub minus-Negative : (at : Place) (x : Minus) → minus_of (minus.Negative at x) ≡ Node p.Negate at (more (minus_of x) none)
unfolding minus_of negation_of postfix_of primary_of print_item_of simple_of statement_of and_part_of block_arm_of comparison_of comparison_part_of conjunction_of expression_of line_arm_of or_part_of pair_of parameter_of product_of product_part_of rest_of shift_of shift_part_of sum_of sum_part_of target_of value_of
minus-Negative at x =
    ap (f.fold-Minus _ _ _ _ _ _ _ _ _ _ _ _ _ _ _ _ _ _ _ _ _ _ _ _ _ _ _ _ _ _ _ _ _ _ _ _ _ _ _ _ _ _ _ _ _ _ _ _ _ _ _ _) (sym (minus.rolls-Negative at x))
    ∙ f.fold-roll-Minus _ _ _ _ _ _ _ _ _ _ _ _ _ _ _ _ _ _ _ _ _ _ _ _ _ _ _ _ _ _ _ _ _ _ _ _ _ _ _ _ _ _ _ _ _ _ _ _ _ _ _ _ (o.Negative at x)

pub minus-Positive : (x : Value) → minus_of (minus.Positive x) ≡ value_of x
unfolding minus_of negation_of postfix_of primary_of print_item_of simple_of statement_of and_part_of block_arm_of comparison_of comparison_part_of conjunction_of expression_of line_arm_of or_part_of pair_of parameter_of product_of product_part_of rest_of shift_of shift_part_of sum_of sum_part_of target_of value_of
minus-Positive x =
    ap (f.fold-Minus _ _ _ _ _ _ _ _ _ _ _ _ _ _ _ _ _ _ _ _ _ _ _ _ _ _ _ _ _ _ _ _ _ _ _ _ _ _ _ _ _ _ _ _ _ _ _ _ _ _ _ _) (sym (minus.rolls-Positive x))
    ∙ f.fold-roll-Minus _ _ _ _ _ _ _ _ _ _ _ _ _ _ _ _ _ _ _ _ _ _ _ _ _ _ _ _ _ _ _ _ _ _ _ _ _ _ _ _ _ _ _ _ _ _ _ _ _ _ _ _ (o.Positive x)

pub negation-Not : (at : Place) (x : Negation) → negation_of (negation.Not at x) ≡ Node p.Not at (more (negation_of x) none)
unfolding minus_of negation_of postfix_of primary_of print_item_of simple_of statement_of and_part_of block_arm_of comparison_of comparison_part_of conjunction_of expression_of line_arm_of or_part_of pair_of parameter_of product_of product_part_of rest_of shift_of shift_part_of sum_of sum_part_of target_of value_of
negation-Not at x =
    ap (f.fold-Negation _ _ _ _ _ _ _ _ _ _ _ _ _ _ _ _ _ _ _ _ _ _ _ _ _ _ _ _ _ _ _ _ _ _ _ _ _ _ _ _ _ _ _ _ _ _ _ _ _ _ _ _) (sym (negation.rolls-Not at x))
    ∙ f.fold-roll-Negation _ _ _ _ _ _ _ _ _ _ _ _ _ _ _ _ _ _ _ _ _ _ _ _ _ _ _ _ _ _ _ _ _ _ _ _ _ _ _ _ _ _ _ _ _ _ _ _ _ _ _ _ (o.Not at x)

pub negation-Plain : (x : Comparison) → negation_of (negation.Plain x) ≡ comparison_of x
unfolding minus_of negation_of postfix_of primary_of print_item_of simple_of statement_of and_part_of block_arm_of comparison_of comparison_part_of conjunction_of expression_of line_arm_of or_part_of pair_of parameter_of product_of product_part_of rest_of shift_of shift_part_of sum_of sum_part_of target_of value_of
negation-Plain x =
    ap (f.fold-Negation _ _ _ _ _ _ _ _ _ _ _ _ _ _ _ _ _ _ _ _ _ _ _ _ _ _ _ _ _ _ _ _ _ _ _ _ _ _ _ _ _ _ _ _ _ _ _ _ _ _ _ _) (sym (negation.rolls-Plain x))
    ∙ f.fold-roll-Negation _ _ _ _ _ _ _ _ _ _ _ _ _ _ _ _ _ _ _ _ _ _ _ _ _ _ _ _ _ _ _ _ _ _ _ _ _ _ _ _ _ _ _ _ _ _ _ _ _ _ _ _ (o.Plain x)

pub postfix-Member : (at : Place) (x : Name) → postfix_of (postfix.Member at x) ≡ member at (folded x.text)
unfolding minus_of negation_of postfix_of primary_of print_item_of simple_of statement_of and_part_of block_arm_of comparison_of comparison_part_of conjunction_of expression_of line_arm_of or_part_of pair_of parameter_of product_of product_part_of rest_of shift_of shift_part_of sum_of sum_part_of target_of value_of
postfix-Member at x =
    ap (f.fold-Postfix _ _ _ _ _ _ _ _ _ _ _ _ _ _ _ _ _ _ _ _ _ _ _ _ _ _ _ _ _ _ _ _ _ _ _ _ _ _ _ _ _ _ _ _ _ _ _ _ _ _ _ _) (sym (postfix.rolls-Member at x))
    ∙ f.fold-roll-Postfix _ _ _ _ _ _ _ _ _ _ _ _ _ _ _ _ _ _ _ _ _ _ _ _ _ _ _ _ _ _ _ _ _ _ _ _ _ _ _ _ _ _ _ _ _ _ _ _ _ _ _ _ (o.Member at x)

pub postfix-Index : (at : Place) (e : Expression) → postfix_of (postfix.Index at e) ≡ index at (expression_of e)
unfolding minus_of negation_of postfix_of primary_of print_item_of simple_of statement_of and_part_of block_arm_of comparison_of comparison_part_of conjunction_of expression_of line_arm_of or_part_of pair_of parameter_of product_of product_part_of rest_of shift_of shift_part_of sum_of sum_part_of target_of value_of
postfix-Index at e =
    ap (f.fold-Postfix _ _ _ _ _ _ _ _ _ _ _ _ _ _ _ _ _ _ _ _ _ _ _ _ _ _ _ _ _ _ _ _ _ _ _ _ _ _ _ _ _ _ _ _ _ _ _ _ _ _ _ _) (sym (postfix.rolls-Index at e))
    ∙ f.fold-roll-Postfix _ _ _ _ _ _ _ _ _ _ _ _ _ _ _ _ _ _ _ _ _ _ _ _ _ _ _ _ _ _ _ _ _ _ _ _ _ _ _ _ _ _ _ _ _ _ _ _ _ _ _ _ (o.Index at e)

pub postfix-Arguments : (at : Place) (es : List Expression) → postfix_of (postfix.Arguments at es) ≡ arguments at (forms (map expression_of es))
unfolding minus_of negation_of postfix_of primary_of print_item_of simple_of statement_of and_part_of block_arm_of comparison_of comparison_part_of conjunction_of expression_of line_arm_of or_part_of pair_of parameter_of product_of product_part_of rest_of shift_of shift_part_of sum_of sum_part_of target_of value_of
postfix-Arguments at es =
    ap (f.fold-Postfix _ _ _ _ _ _ _ _ _ _ _ _ _ _ _ _ _ _ _ _ _ _ _ _ _ _ _ _ _ _ _ _ _ _ _ _ _ _ _ _ _ _ _ _ _ _ _ _ _ _ _ _) (sym (postfix.rolls-Arguments at es))
    ∙ f.fold-roll-Postfix _ _ _ _ _ _ _ _ _ _ _ _ _ _ _ _ _ _ _ _ _ _ _ _ _ _ _ _ _ _ _ _ _ _ _ _ _ _ _ _ _ _ _ _ _ _ _ _ _ _ _ _ (o.Arguments at es)

pub primary-Number : (at : Place) (t : Text) → primary_of (primary.Number at t) ≡ Node (p.Number t) at none
unfolding minus_of negation_of postfix_of primary_of print_item_of simple_of statement_of and_part_of block_arm_of comparison_of comparison_part_of conjunction_of expression_of line_arm_of or_part_of pair_of parameter_of product_of product_part_of rest_of shift_of shift_part_of sum_of sum_part_of target_of value_of
primary-Number at t =
    ap (f.fold-Primary _ _ _ _ _ _ _ _ _ _ _ _ _ _ _ _ _ _ _ _ _ _ _ _ _ _ _ _ _ _ _ _ _ _ _ _ _ _ _ _ _ _ _ _ _ _ _ _ _ _ _ _) (sym (primary.rolls-Number at t))
    ∙ f.fold-roll-Primary _ _ _ _ _ _ _ _ _ _ _ _ _ _ _ _ _ _ _ _ _ _ _ _ _ _ _ _ _ _ _ _ _ _ _ _ _ _ _ _ _ _ _ _ _ _ _ _ _ _ _ _ (o.Number at t)

pub primary-Text : (at : Place) (t : Text) → primary_of (primary.Text at t) ≡ Node (p.Quoted t) at none
unfolding minus_of negation_of postfix_of primary_of print_item_of simple_of statement_of and_part_of block_arm_of comparison_of comparison_part_of conjunction_of expression_of line_arm_of or_part_of pair_of parameter_of product_of product_part_of rest_of shift_of shift_part_of sum_of sum_part_of target_of value_of
primary-Text at t =
    ap (f.fold-Primary _ _ _ _ _ _ _ _ _ _ _ _ _ _ _ _ _ _ _ _ _ _ _ _ _ _ _ _ _ _ _ _ _ _ _ _ _ _ _ _ _ _ _ _ _ _ _ _ _ _ _ _) (sym (primary.rolls-Text at t))
    ∙ f.fold-roll-Primary _ _ _ _ _ _ _ _ _ _ _ _ _ _ _ _ _ _ _ _ _ _ _ _ _ _ _ _ _ _ _ _ _ _ _ _ _ _ _ _ _ _ _ _ _ _ _ _ _ _ _ _ (o.Text at t)

pub primary-True : (at : Place) → primary_of (primary.True at) ≡ Node (p.Truth true) at none
unfolding minus_of negation_of postfix_of primary_of print_item_of simple_of statement_of and_part_of block_arm_of comparison_of comparison_part_of conjunction_of expression_of line_arm_of or_part_of pair_of parameter_of product_of product_part_of rest_of shift_of shift_part_of sum_of sum_part_of target_of value_of
primary-True at =
    ap (f.fold-Primary _ _ _ _ _ _ _ _ _ _ _ _ _ _ _ _ _ _ _ _ _ _ _ _ _ _ _ _ _ _ _ _ _ _ _ _ _ _ _ _ _ _ _ _ _ _ _ _ _ _ _ _) (sym (primary.rolls-True at))
    ∙ f.fold-roll-Primary _ _ _ _ _ _ _ _ _ _ _ _ _ _ _ _ _ _ _ _ _ _ _ _ _ _ _ _ _ _ _ _ _ _ _ _ _ _ _ _ _ _ _ _ _ _ _ _ _ _ _ _ (o.True at)

pub primary-False : (at : Place) → primary_of (primary.False at) ≡ Node (p.Truth false) at none
unfolding minus_of negation_of postfix_of primary_of print_item_of simple_of statement_of and_part_of block_arm_of comparison_of comparison_part_of conjunction_of expression_of line_arm_of or_part_of pair_of parameter_of product_of product_part_of rest_of shift_of shift_part_of sum_of sum_part_of target_of value_of
primary-False at =
    ap (f.fold-Primary _ _ _ _ _ _ _ _ _ _ _ _ _ _ _ _ _ _ _ _ _ _ _ _ _ _ _ _ _ _ _ _ _ _ _ _ _ _ _ _ _ _ _ _ _ _ _ _ _ _ _ _) (sym (primary.rolls-False at))
    ∙ f.fold-roll-Primary _ _ _ _ _ _ _ _ _ _ _ _ _ _ _ _ _ _ _ _ _ _ _ _ _ _ _ _ _ _ _ _ _ _ _ _ _ _ _ _ _ _ _ _ _ _ _ _ _ _ _ _ (o.False at)

pub primary-Invalid : (at : Place) → primary_of (primary.Invalid at) ≡ Node p.Invalid at none
unfolding minus_of negation_of postfix_of primary_of print_item_of simple_of statement_of and_part_of block_arm_of comparison_of comparison_part_of conjunction_of expression_of line_arm_of or_part_of pair_of parameter_of product_of product_part_of rest_of shift_of shift_part_of sum_of sum_part_of target_of value_of
primary-Invalid at =
    ap (f.fold-Primary _ _ _ _ _ _ _ _ _ _ _ _ _ _ _ _ _ _ _ _ _ _ _ _ _ _ _ _ _ _ _ _ _ _ _ _ _ _ _ _ _ _ _ _ _ _ _ _ _ _ _ _) (sym (primary.rolls-Invalid at))
    ∙ f.fold-roll-Primary _ _ _ _ _ _ _ _ _ _ _ _ _ _ _ _ _ _ _ _ _ _ _ _ _ _ _ _ _ _ _ _ _ _ _ _ _ _ _ _ _ _ _ _ _ _ _ _ _ _ _ _ (o.Invalid at)

pub primary-Variable : (x : Name) → primary_of (primary.Variable x) ≡ variable x.place (folded x.text)
unfolding minus_of negation_of postfix_of primary_of print_item_of simple_of statement_of and_part_of block_arm_of comparison_of comparison_part_of conjunction_of expression_of line_arm_of or_part_of pair_of parameter_of product_of product_part_of rest_of shift_of shift_part_of sum_of sum_part_of target_of value_of
primary-Variable x =
    ap (f.fold-Primary _ _ _ _ _ _ _ _ _ _ _ _ _ _ _ _ _ _ _ _ _ _ _ _ _ _ _ _ _ _ _ _ _ _ _ _ _ _ _ _ _ _ _ _ _ _ _ _ _ _ _ _) (sym (primary.rolls-Variable x))
    ∙ f.fold-roll-Primary _ _ _ _ _ _ _ _ _ _ _ _ _ _ _ _ _ _ _ _ _ _ _ _ _ _ _ _ _ _ _ _ _ _ _ _ _ _ _ _ _ _ _ _ _ _ _ _ _ _ _ _ (o.Variable x)

pub primary-Bracketed : (at : Place) (e : Expression) → primary_of (primary.Bracketed at e) ≡ expression_of e
unfolding minus_of negation_of postfix_of primary_of print_item_of simple_of statement_of and_part_of block_arm_of comparison_of comparison_part_of conjunction_of expression_of line_arm_of or_part_of pair_of parameter_of product_of product_part_of rest_of shift_of shift_part_of sum_of sum_part_of target_of value_of
primary-Bracketed at e =
    ap (f.fold-Primary _ _ _ _ _ _ _ _ _ _ _ _ _ _ _ _ _ _ _ _ _ _ _ _ _ _ _ _ _ _ _ _ _ _ _ _ _ _ _ _ _ _ _ _ _ _ _ _ _ _ _ _) (sym (primary.rolls-Bracketed at e))
    ∙ f.fold-roll-Primary _ _ _ _ _ _ _ _ _ _ _ _ _ _ _ _ _ _ _ _ _ _ _ _ _ _ _ _ _ _ _ _ _ _ _ _ _ _ _ _ _ _ _ _ _ _ _ _ _ _ _ _ (o.Bracketed at e)

pub primary-Array : (at : Place) (es : List Expression) → primary_of (primary.Array at es) ≡ Node p.Array at (forms (map expression_of es))
unfolding minus_of negation_of postfix_of primary_of print_item_of simple_of statement_of and_part_of block_arm_of comparison_of comparison_part_of conjunction_of expression_of line_arm_of or_part_of pair_of parameter_of product_of product_part_of rest_of shift_of shift_part_of sum_of sum_part_of target_of value_of
primary-Array at es =
    ap (f.fold-Primary _ _ _ _ _ _ _ _ _ _ _ _ _ _ _ _ _ _ _ _ _ _ _ _ _ _ _ _ _ _ _ _ _ _ _ _ _ _ _ _ _ _ _ _ _ _ _ _ _ _ _ _) (sym (primary.rolls-Array at es))
    ∙ f.fold-roll-Primary _ _ _ _ _ _ _ _ _ _ _ _ _ _ _ _ _ _ _ _ _ _ _ _ _ _ _ _ _ _ _ _ _ _ _ _ _ _ _ _ _ _ _ _ _ _ _ _ _ _ _ _ (o.Array at es)

pub primary-Pairs : (at : Place) (xs : List Pair) → primary_of (primary.Pairs at xs) ≡ Node (p.Pairs (map (λ x. x.key) (map pair_of xs))) at (forms (map (λ x. x.value) (map pair_of xs)))
unfolding minus_of negation_of postfix_of primary_of print_item_of simple_of statement_of and_part_of block_arm_of comparison_of comparison_part_of conjunction_of expression_of line_arm_of or_part_of pair_of parameter_of product_of product_part_of rest_of shift_of shift_part_of sum_of sum_part_of target_of value_of
primary-Pairs at xs =
    ap (f.fold-Primary _ _ _ _ _ _ _ _ _ _ _ _ _ _ _ _ _ _ _ _ _ _ _ _ _ _ _ _ _ _ _ _ _ _ _ _ _ _ _ _ _ _ _ _ _ _ _ _ _ _ _ _) (sym (primary.rolls-Pairs at xs))
    ∙ f.fold-roll-Primary _ _ _ _ _ _ _ _ _ _ _ _ _ _ _ _ _ _ _ _ _ _ _ _ _ _ _ _ _ _ _ _ _ _ _ _ _ _ _ _ _ _ _ _ _ _ _ _ _ _ _ _ (o.Pairs at xs)

pub primary-AnonymousFunction : (at : Place) (r : Rest) → primary_of (primary.AnonymousFunction at r) ≡ Node (p.Anonymous p.FunctionKind (rest_of r).params (rest_of r).value (rest_of r).body) at none
unfolding minus_of negation_of postfix_of primary_of print_item_of simple_of statement_of and_part_of block_arm_of comparison_of comparison_part_of conjunction_of expression_of line_arm_of or_part_of pair_of parameter_of product_of product_part_of rest_of shift_of shift_part_of sum_of sum_part_of target_of value_of
primary-AnonymousFunction at r =
    ap (f.fold-Primary _ _ _ _ _ _ _ _ _ _ _ _ _ _ _ _ _ _ _ _ _ _ _ _ _ _ _ _ _ _ _ _ _ _ _ _ _ _ _ _ _ _ _ _ _ _ _ _ _ _ _ _) (sym (primary.rolls-AnonymousFunction at r))
    ∙ f.fold-roll-Primary _ _ _ _ _ _ _ _ _ _ _ _ _ _ _ _ _ _ _ _ _ _ _ _ _ _ _ _ _ _ _ _ _ _ _ _ _ _ _ _ _ _ _ _ _ _ _ _ _ _ _ _ (o.AnonymousFunction at r)

pub primary-AnonymousSub : (at : Place) (r : Rest) → primary_of (primary.AnonymousSub at r) ≡ Node (p.Anonymous p.SubKind (rest_of r).params (rest_of r).value (rest_of r).body) at none
unfolding minus_of negation_of postfix_of primary_of print_item_of simple_of statement_of and_part_of block_arm_of comparison_of comparison_part_of conjunction_of expression_of line_arm_of or_part_of pair_of parameter_of product_of product_part_of rest_of shift_of shift_part_of sum_of sum_part_of target_of value_of
primary-AnonymousSub at r =
    ap (f.fold-Primary _ _ _ _ _ _ _ _ _ _ _ _ _ _ _ _ _ _ _ _ _ _ _ _ _ _ _ _ _ _ _ _ _ _ _ _ _ _ _ _ _ _ _ _ _ _ _ _ _ _ _ _) (sym (primary.rolls-AnonymousSub at r))
    ∙ f.fold-roll-Primary _ _ _ _ _ _ _ _ _ _ _ _ _ _ _ _ _ _ _ _ _ _ _ _ _ _ _ _ _ _ _ _ _ _ _ _ _ _ _ _ _ _ _ _ _ _ _ _ _ _ _ _ (o.AnonymousSub at r)

pub and-part-out : (x : AndPart) → and_part_of x ≡ record { head = p.And; place = (out-AndPart x).place; right = negation_of (out-AndPart x).operand }
unfolding minus_of negation_of postfix_of primary_of print_item_of simple_of statement_of and_part_of block_arm_of comparison_of comparison_part_of conjunction_of expression_of line_arm_of or_part_of pair_of parameter_of product_of product_part_of rest_of shift_of shift_part_of sum_of sum_part_of target_of value_of
and-part-out x = f.fold_out-AndPart _ _ _ _ _ _ _ _ _ _ _ _ _ _ _ _ _ _ _ _ _ _ _ _ _ _ _ _ _ _ _ _ _ _ _ _ _ _ _ _ _ _ _ _ _ _ _ _ _ _ _ _ x

pub block-arm-out : (x : BlockArm) → block_arm_of x ≡ record { place = (out-BlockArm x).place; condition = expression_of (out-BlockArm x).condition; body = todos (map statement_of (out-BlockArm x).block) }
unfolding minus_of negation_of postfix_of primary_of print_item_of simple_of statement_of and_part_of block_arm_of comparison_of comparison_part_of conjunction_of expression_of line_arm_of or_part_of pair_of parameter_of product_of product_part_of rest_of shift_of shift_part_of sum_of sum_part_of target_of value_of
block-arm-out x = f.fold_out-BlockArm _ _ _ _ _ _ _ _ _ _ _ _ _ _ _ _ _ _ _ _ _ _ _ _ _ _ _ _ _ _ _ _ _ _ _ _ _ _ _ _ _ _ _ _ _ _ _ _ _ _ _ _ x

pub comparison-out : (x : Comparison) → comparison_of x ≡ chained (shift_of (out-Comparison x).first) (map comparison_part_of (out-Comparison x).more)
unfolding minus_of negation_of postfix_of primary_of print_item_of simple_of statement_of and_part_of block_arm_of comparison_of comparison_part_of conjunction_of expression_of line_arm_of or_part_of pair_of parameter_of product_of product_part_of rest_of shift_of shift_part_of sum_of sum_part_of target_of value_of
comparison-out x = f.fold_out-Comparison _ _ _ _ _ _ _ _ _ _ _ _ _ _ _ _ _ _ _ _ _ _ _ _ _ _ _ _ _ _ _ _ _ _ _ _ _ _ _ _ _ _ _ _ _ _ _ _ _ _ _ _ x

pub comparison-part-out : (x : ComparisonPart) → comparison_part_of x ≡ record { head = p.Compare (out-ComparisonPart x).sign; place = (out-ComparisonPart x).place; right = shift_of (out-ComparisonPart x).operand }
unfolding minus_of negation_of postfix_of primary_of print_item_of simple_of statement_of and_part_of block_arm_of comparison_of comparison_part_of conjunction_of expression_of line_arm_of or_part_of pair_of parameter_of product_of product_part_of rest_of shift_of shift_part_of sum_of sum_part_of target_of value_of
comparison-part-out x = f.fold_out-ComparisonPart _ _ _ _ _ _ _ _ _ _ _ _ _ _ _ _ _ _ _ _ _ _ _ _ _ _ _ _ _ _ _ _ _ _ _ _ _ _ _ _ _ _ _ _ _ _ _ _ _ _ _ _ x

pub conjunction-out : (x : Conjunction) → conjunction_of x ≡ chained (negation_of (out-Conjunction x).first) (map and_part_of (out-Conjunction x).more)
unfolding minus_of negation_of postfix_of primary_of print_item_of simple_of statement_of and_part_of block_arm_of comparison_of comparison_part_of conjunction_of expression_of line_arm_of or_part_of pair_of parameter_of product_of product_part_of rest_of shift_of shift_part_of sum_of sum_part_of target_of value_of
conjunction-out x = f.fold_out-Conjunction _ _ _ _ _ _ _ _ _ _ _ _ _ _ _ _ _ _ _ _ _ _ _ _ _ _ _ _ _ _ _ _ _ _ _ _ _ _ _ _ _ _ _ _ _ _ _ _ _ _ _ _ x

pub expression-out : (x : Expression) → expression_of x ≡ chained (conjunction_of (out-Expression x).first) (map or_part_of (out-Expression x).more)
unfolding minus_of negation_of postfix_of primary_of print_item_of simple_of statement_of and_part_of block_arm_of comparison_of comparison_part_of conjunction_of expression_of line_arm_of or_part_of pair_of parameter_of product_of product_part_of rest_of shift_of shift_part_of sum_of sum_part_of target_of value_of
expression-out x = f.fold_out-Expression _ _ _ _ _ _ _ _ _ _ _ _ _ _ _ _ _ _ _ _ _ _ _ _ _ _ _ _ _ _ _ _ _ _ _ _ _ _ _ _ _ _ _ _ _ _ _ _ _ _ _ _ x

pub line-arm-out : (x : LineArm) → line_arm_of x ≡ record { place = (out-LineArm x).place; condition = expression_of (out-LineArm x).condition; body = todos (map simple_of (out-LineArm x).run) }
unfolding minus_of negation_of postfix_of primary_of print_item_of simple_of statement_of and_part_of block_arm_of comparison_of comparison_part_of conjunction_of expression_of line_arm_of or_part_of pair_of parameter_of product_of product_part_of rest_of shift_of shift_part_of sum_of sum_part_of target_of value_of
line-arm-out x = f.fold_out-LineArm _ _ _ _ _ _ _ _ _ _ _ _ _ _ _ _ _ _ _ _ _ _ _ _ _ _ _ _ _ _ _ _ _ _ _ _ _ _ _ _ _ _ _ _ _ _ _ _ _ _ _ _ x

pub or-part-out : (x : OrPart) → or_part_of x ≡ record { head = p.Or; place = (out-OrPart x).place; right = conjunction_of (out-OrPart x).operand }
unfolding minus_of negation_of postfix_of primary_of print_item_of simple_of statement_of and_part_of block_arm_of comparison_of comparison_part_of conjunction_of expression_of line_arm_of or_part_of pair_of parameter_of product_of product_part_of rest_of shift_of shift_part_of sum_of sum_part_of target_of value_of
or-part-out x = f.fold_out-OrPart _ _ _ _ _ _ _ _ _ _ _ _ _ _ _ _ _ _ _ _ _ _ _ _ _ _ _ _ _ _ _ _ _ _ _ _ _ _ _ _ _ _ _ _ _ _ _ _ _ _ _ _ x

pub pair-out : (x : Pair) → pair_of x ≡ record { key = key_of (out-Pair x).key; value = expression_of (out-Pair x).value }
unfolding minus_of negation_of postfix_of primary_of print_item_of simple_of statement_of and_part_of block_arm_of comparison_of comparison_part_of conjunction_of expression_of line_arm_of or_part_of pair_of parameter_of product_of product_part_of rest_of shift_of shift_part_of sum_of sum_part_of target_of value_of
pair-out x = f.fold_out-Pair _ _ _ _ _ _ _ _ _ _ _ _ _ _ _ _ _ _ _ _ _ _ _ _ _ _ _ _ _ _ _ _ _ _ _ _ _ _ _ _ _ _ _ _ _ _ _ _ _ _ _ _ x

pub product-out : (x : Product) → product_of x ≡ chained (minus_of (out-Product x).first) (map product_part_of (out-Product x).more)
unfolding minus_of negation_of postfix_of primary_of print_item_of simple_of statement_of and_part_of block_arm_of comparison_of comparison_part_of conjunction_of expression_of line_arm_of or_part_of pair_of parameter_of product_of product_part_of rest_of shift_of shift_part_of sum_of sum_part_of target_of value_of
product-out x = f.fold_out-Product _ _ _ _ _ _ _ _ _ _ _ _ _ _ _ _ _ _ _ _ _ _ _ _ _ _ _ _ _ _ _ _ _ _ _ _ _ _ _ _ _ _ _ _ _ _ _ _ _ _ _ _ x

pub product-part-out : (x : ProductPart) → product_part_of x ≡ record { head = p.Multiply (out-ProductPart x).sign; place = (out-ProductPart x).place; right = minus_of (out-ProductPart x).operand }
unfolding minus_of negation_of postfix_of primary_of print_item_of simple_of statement_of and_part_of block_arm_of comparison_of comparison_part_of conjunction_of expression_of line_arm_of or_part_of pair_of parameter_of product_of product_part_of rest_of shift_of shift_part_of sum_of sum_part_of target_of value_of
product-part-out x = f.fold_out-ProductPart _ _ _ _ _ _ _ _ _ _ _ _ _ _ _ _ _ _ _ _ _ _ _ _ _ _ _ _ _ _ _ _ _ _ _ _ _ _ _ _ _ _ _ _ _ _ _ _ _ _ _ _ x

pub rest-out : (x : Rest) → rest_of x ≡ record { params = params (map parameter_of (out-Rest x).parameters); value = (out-Rest x).value; body = todos (map statement_of (out-Rest x).body) }
unfolding minus_of negation_of postfix_of primary_of print_item_of simple_of statement_of and_part_of block_arm_of comparison_of comparison_part_of conjunction_of expression_of line_arm_of or_part_of pair_of parameter_of product_of product_part_of rest_of shift_of shift_part_of sum_of sum_part_of target_of value_of
rest-out x = f.fold_out-Rest _ _ _ _ _ _ _ _ _ _ _ _ _ _ _ _ _ _ _ _ _ _ _ _ _ _ _ _ _ _ _ _ _ _ _ _ _ _ _ _ _ _ _ _ _ _ _ _ _ _ _ _ x

pub shift-out : (x : Shift) → shift_of x ≡ chained (sum_of (out-Shift x).first) (map shift_part_of (out-Shift x).more)
unfolding minus_of negation_of postfix_of primary_of print_item_of simple_of statement_of and_part_of block_arm_of comparison_of comparison_part_of conjunction_of expression_of line_arm_of or_part_of pair_of parameter_of product_of product_part_of rest_of shift_of shift_part_of sum_of sum_part_of target_of value_of
shift-out x = f.fold_out-Shift _ _ _ _ _ _ _ _ _ _ _ _ _ _ _ _ _ _ _ _ _ _ _ _ _ _ _ _ _ _ _ _ _ _ _ _ _ _ _ _ _ _ _ _ _ _ _ _ _ _ _ _ x

pub shift-part-out : (x : ShiftPart) → shift_part_of x ≡ record { head = p.Shift (out-ShiftPart x).sign; place = (out-ShiftPart x).place; right = sum_of (out-ShiftPart x).operand }
unfolding minus_of negation_of postfix_of primary_of print_item_of simple_of statement_of and_part_of block_arm_of comparison_of comparison_part_of conjunction_of expression_of line_arm_of or_part_of pair_of parameter_of product_of product_part_of rest_of shift_of shift_part_of sum_of sum_part_of target_of value_of
shift-part-out x = f.fold_out-ShiftPart _ _ _ _ _ _ _ _ _ _ _ _ _ _ _ _ _ _ _ _ _ _ _ _ _ _ _ _ _ _ _ _ _ _ _ _ _ _ _ _ _ _ _ _ _ _ _ _ _ _ _ _ x

pub sum-out : (x : Sum) → sum_of x ≡ chained (product_of (out-Sum x).first) (map sum_part_of (out-Sum x).more)
unfolding minus_of negation_of postfix_of primary_of print_item_of simple_of statement_of and_part_of block_arm_of comparison_of comparison_part_of conjunction_of expression_of line_arm_of or_part_of pair_of parameter_of product_of product_part_of rest_of shift_of shift_part_of sum_of sum_part_of target_of value_of
sum-out x = f.fold_out-Sum _ _ _ _ _ _ _ _ _ _ _ _ _ _ _ _ _ _ _ _ _ _ _ _ _ _ _ _ _ _ _ _ _ _ _ _ _ _ _ _ _ _ _ _ _ _ _ _ _ _ _ _ x

pub sum-part-out : (x : SumPart) → sum_part_of x ≡ record { head = p.Add (out-SumPart x).sign; place = (out-SumPart x).place; right = product_of (out-SumPart x).operand }
unfolding minus_of negation_of postfix_of primary_of print_item_of simple_of statement_of and_part_of block_arm_of comparison_of comparison_part_of conjunction_of expression_of line_arm_of or_part_of pair_of parameter_of product_of product_part_of rest_of shift_of shift_part_of sum_of sum_part_of target_of value_of
sum-part-out x = f.fold_out-SumPart _ _ _ _ _ _ _ _ _ _ _ _ _ _ _ _ _ _ _ _ _ _ _ _ _ _ _ _ _ _ _ _ _ _ _ _ _ _ _ _ _ _ _ _ _ _ _ _ _ _ _ _ x

pub target-out : (x : Target) → target_of x ≡ record { place = (out-Target x).name.place; name = folded (out-Target x).name.text; tails = map postfix_of (out-Target x).more }
unfolding minus_of negation_of postfix_of primary_of print_item_of simple_of statement_of and_part_of block_arm_of comparison_of comparison_part_of conjunction_of expression_of line_arm_of or_part_of pair_of parameter_of product_of product_part_of rest_of shift_of shift_part_of sum_of sum_part_of target_of value_of
target-out x = f.fold_out-Target _ _ _ _ _ _ _ _ _ _ _ _ _ _ _ _ _ _ _ _ _ _ _ _ _ _ _ _ _ _ _ _ _ _ _ _ _ _ _ _ _ _ _ _ _ _ _ _ _ _ _ _ x

pub value-out : (x : Value) → value_of x ≡ tailed (primary_of (out-Value x).first) (map postfix_of (out-Value x).more)
unfolding minus_of negation_of postfix_of primary_of print_item_of simple_of statement_of and_part_of block_arm_of comparison_of comparison_part_of conjunction_of expression_of line_arm_of or_part_of pair_of parameter_of product_of product_part_of rest_of shift_of shift_part_of sum_of sum_part_of target_of value_of
value-out x = f.fold_out-Value _ _ _ _ _ _ _ _ _ _ _ _ _ _ _ _ _ _ _ _ _ _ _ _ _ _ _ _ _ _ _ _ _ _ _ _ _ _ _ _ _ _ _ _ _ _ _ _ _ _ _ _ x

abbrev pub formal_of : Name → Option Expression → Option TypeWord → Formal
formal_of x None k = record { place = x.place; name = folded x.text; default = None; kind = k }
formal_of x (Some e) k = record { place = x.place; name = folded x.text; default = Some (expression_of e); kind = k }

parameter-roll : (x : Name) (d : Option Expression) (k : Option TypeWord) → parameter_of (roll-Parameter (record { name = x; default = d; kind = k })) ≡ formal_of x d k
unfolding minus_of negation_of postfix_of primary_of print_item_of simple_of statement_of and_part_of block_arm_of comparison_of comparison_part_of conjunction_of expression_of line_arm_of or_part_of pair_of parameter_of product_of product_part_of rest_of shift_of shift_part_of sum_of sum_part_of target_of value_of
parameter-roll x None k = f.fold-roll-Parameter _ _ _ _ _ _ _ _ _ _ _ _ _ _ _ _ _ _ _ _ _ _ _ _ _ _ _ _ _ _ _ _ _ _ _ _ _ _ _ _ _ _ _ _ _ _ _ _ _ _ _ _ (record { name = x; default = None; kind = k })
parameter-roll x (Some e) k = f.fold-roll-Parameter _ _ _ _ _ _ _ _ _ _ _ _ _ _ _ _ _ _ _ _ _ _ _ _ _ _ _ _ _ _ _ _ _ _ _ _ _ _ _ _ _ _ _ _ _ _ _ _ _ _ _ _ (record { name = x; default = Some e; kind = k })

pub parameter-out : (x : Parameter) → parameter_of x ≡ formal_of (out-Parameter x).name (out-Parameter x).default (out-Parameter x).kind
parameter-out x = let l = out-Parameter x in ap parameter_of (sym (roll-out-Parameter x)) ∙ parameter-roll l.name l.default l.kind
