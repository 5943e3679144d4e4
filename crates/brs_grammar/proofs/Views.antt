-- What each part of a tree is, from what its parts are: one equation for each variant, and one for each struct.
use Rattle.std.proofs.Common.{◌≡◌, List, map, None, Some, ap, sym, ◌∙◌}
use Rattle.chan_values.specs.Folded.{folded}
use Rattle.brs_tokens.specs.declared.place.Place.{Place}
use Rattle.brs_grammar.specs.declared.tree.Minus.TheOpen as o
use Rattle.brs_grammar.specs.declared.tree.Minus.TheFolds as f
use Rattle.brs_grammar.specs.declared.tree.CountSign.{CountSign}
use Rattle.brs_grammar.specs.declared.tree.LoopKind.{LoopKind}
use Rattle.brs_grammar.specs.declared.tree.Name.{Name}
use Rattle.brs_grammar.specs.declared.tree.UpdateSign.{UpdateSign}
use Rattle.brs_grammar.specs.declared.tree.PrintItem.{PrintItem}
use Rattle.brs_grammar.specs.declared.tree.PrintItem.TheVariants as printed
use Rattle.brs_grammar.specs.declared.tree.Simple.{Simple}
use Rattle.brs_grammar.specs.declared.tree.Simple.TheVariants as simple
use Rattle.brs_grammar.specs.declared.tree.Statement.{Statement}
use Rattle.brs_grammar.specs.declared.tree.Statement.TheVariants as statement
use Rattle.brs_grammar.specs.declared.tree.BlockArm.{BlockArm}
use Rattle.brs_grammar.specs.declared.tree.Expression.{Expression}
use Rattle.brs_grammar.specs.declared.tree.LineArm.{LineArm}
use Rattle.brs_grammar.specs.declared.tree.Target.{Target}
use Rattle.brs_grammar.specs.Form as p
use Rattle.brs_grammar.specs.Form.{Text, Node, none, more, finish}
use Rattle.brs_grammar.specs.View.{minus_of, negation_of, postfix_of, primary_of, print_item_of, simple_of, statement_of, and_part_of, block_arm_of, comparison_of, comparison_part_of, conjunction_of, expression_of, line_arm_of, or_part_of, pair_of, parameter_of, product_of, product_part_of, rest_of, shift_of, shift_part_of, sum_of, sum_part_of, target_of, value_of, semicolon, comma, value, todos, mark, shown, called, assign_step, update_step, counted, one, if_step}
pub use Rattle.brs_grammar.proofs.PartViews.{minus-Negative, minus-Positive, negation-Not, negation-Plain, postfix-Member, postfix-Index, postfix-Arguments, primary-Number, primary-Text, primary-True, primary-False, primary-Invalid, primary-Variable, primary-Bracketed, primary-Array, primary-Pairs, primary-AnonymousFunction, primary-AnonymousSub, and-part-out, block-arm-out, comparison-out, comparison-part-out, conjunction-out, expression-out, line-arm-out, or-part-out, pair-out, product-out, product-part-out, rest-out, shift-out, shift-part-out, sum-out, sum-part-out, target-out, value-out, parameter-out, formal_of}

pub print-item-Semicolon : print_item_of (printed.Semicolon) ≡ semicolon
unfolding minus_of negation_of postfix_of primary_of print_item_of simple_of statement_of and_part_of block_arm_of comparison_of comparison_part_of conjunction_of expression_of line_arm_of or_part_of pair_of parameter_of product_of product_part_of rest_of shift_of shift_part_of sum_of sum_part_of target_of value_of
print-item-Semicolon =
    ap (f.fold-PrintItem _ _ _ _ _ _ _ _ _ _ _ _ _ _ _ _ _ _ _ _ _ _ _ _ _ _ _ _ _ _ _ _ _ _ _ _ _ _ _ _ _ _ _ _ _ _ _ _ _ _ _ _) (sym (printed.rolls-Semicolon))
    ∙ f.fold-roll-PrintItem _ _ _ _ _ _ _ _ _ _ _ _ _ _ _ _ _ _ _ _ _ _ _ _ _ _ _ _ _ _ _ _ _ _ _ _ _ _ _ _ _ _ _ _ _ _ _ _ _ _ _ _ (o.Semicolon)

pub print-item-Comma : print_item_of (printed.Comma) ≡ comma
unfolding minus_of negation_of postfix_of primary_of print_item_of simple_of statement_of and_part_of block_arm_of comparison_of comparison_part_of conjunction_of expression_of line_arm_of or_part_of pair_of parameter_of product_of product_part_of rest_of shift_of shift_part_of sum_of sum_part_of target_of value_of
print-item-Comma =
    ap (f.fold-PrintItem _ _ _ _ _ _ _ _ _ _ _ _ _ _ _ _ _ _ _ _ _ _ _ _ _ _ _ _ _ _ _ _ _ _ _ _ _ _ _ _ _ _ _ _ _ _ _ _ _ _ _ _) (sym (printed.rolls-Comma))
    ∙ f.fold-roll-PrintItem _ _ _ _ _ _ _ _ _ _ _ _ _ _ _ _ _ _ _ _ _ _ _ _ _ _ _ _ _ _ _ _ _ _ _ _ _ _ _ _ _ _ _ _ _ _ _ _ _ _ _ _ (o.Comma)

pub print-item-Value : (e : Expression) → print_item_of (printed.Value e) ≡ value (expression_of e)
unfolding minus_of negation_of postfix_of primary_of print_item_of simple_of statement_of and_part_of block_arm_of comparison_of comparison_part_of conjunction_of expression_of line_arm_of or_part_of pair_of parameter_of product_of product_part_of rest_of shift_of shift_part_of sum_of sum_part_of target_of value_of
print-item-Value e =
    ap (f.fold-PrintItem _ _ _ _ _ _ _ _ _ _ _ _ _ _ _ _ _ _ _ _ _ _ _ _ _ _ _ _ _ _ _ _ _ _ _ _ _ _ _ _ _ _ _ _ _ _ _ _ _ _ _ _) (sym (printed.rolls-Value e))
    ∙ f.fold-roll-PrintItem _ _ _ _ _ _ _ _ _ _ _ _ _ _ _ _ _ _ _ _ _ _ _ _ _ _ _ _ _ _ _ _ _ _ _ _ _ _ _ _ _ _ _ _ _ _ _ _ _ _ _ _ (o.Value e)

pub simple-Assign : (t : Target) (at : Place) (e : Expression) → simple_of (simple.Assign t at e) ≡ assign_step (target_of t) (expression_of e)
unfolding minus_of negation_of postfix_of primary_of print_item_of simple_of statement_of and_part_of block_arm_of comparison_of comparison_part_of conjunction_of expression_of line_arm_of or_part_of pair_of parameter_of product_of product_part_of rest_of shift_of shift_part_of sum_of sum_part_of target_of value_of
simple-Assign t at e =
    ap (f.fold-Simple _ _ _ _ _ _ _ _ _ _ _ _ _ _ _ _ _ _ _ _ _ _ _ _ _ _ _ _ _ _ _ _ _ _ _ _ _ _ _ _ _ _ _ _ _ _ _ _ _ _ _ _) (sym (simple.rolls-Assign t at e))
    ∙ f.fold-roll-Simple _ _ _ _ _ _ _ _ _ _ _ _ _ _ _ _ _ _ _ _ _ _ _ _ _ _ _ _ _ _ _ _ _ _ _ _ _ _ _ _ _ _ _ _ _ _ _ _ _ _ _ _ (o.Assign t at e)

pub simple-Update : (t : Target) (at : Place) (s : UpdateSign) (e : Expression) → simple_of (simple.Update t at s e) ≡ update_step (target_of t) at s (expression_of e)
unfolding minus_of negation_of postfix_of primary_of print_item_of simple_of statement_of and_part_of block_arm_of comparison_of comparison_part_of conjunction_of expression_of line_arm_of or_part_of pair_of parameter_of product_of product_part_of rest_of shift_of shift_part_of sum_of sum_part_of target_of value_of
simple-Update t at s e =
    ap (f.fold-Simple _ _ _ _ _ _ _ _ _ _ _ _ _ _ _ _ _ _ _ _ _ _ _ _ _ _ _ _ _ _ _ _ _ _ _ _ _ _ _ _ _ _ _ _ _ _ _ _ _ _ _ _) (sym (simple.rolls-Update t at s e))
    ∙ f.fold-roll-Simple _ _ _ _ _ _ _ _ _ _ _ _ _ _ _ _ _ _ _ _ _ _ _ _ _ _ _ _ _ _ _ _ _ _ _ _ _ _ _ _ _ _ _ _ _ _ _ _ _ _ _ _ (o.Update t at s e)

pub simple-Count : (t : Target) (at : Place) (s : CountSign) → simple_of (simple.Count t at s) ≡ update_step (target_of t) at (counted s) (one at)
unfolding minus_of negation_of postfix_of primary_of print_item_of simple_of statement_of and_part_of block_arm_of comparison_of comparison_part_of conjunction_of expression_of line_arm_of or_part_of pair_of parameter_of product_of product_part_of rest_of shift_of shift_part_of sum_of sum_part_of target_of value_of
simple-Count t at s =
    ap (f.fold-Simple _ _ _ _ _ _ _ _ _ _ _ _ _ _ _ _ _ _ _ _ _ _ _ _ _ _ _ _ _ _ _ _ _ _ _ _ _ _ _ _ _ _ _ _ _ _ _ _ _ _ _ _) (sym (simple.rolls-Count t at s))
    ∙ f.fold-roll-Simple _ _ _ _ _ _ _ _ _ _ _ _ _ _ _ _ _ _ _ _ _ _ _ _ _ _ _ _ _ _ _ _ _ _ _ _ _ _ _ _ _ _ _ _ _ _ _ _ _ _ _ _ (o.Count t at s)

pub simple-Call : (t : Target) → simple_of (simple.Call t) ≡ record { doing = p.Drop; place = (target_of t).place; operands = more (called (target_of t)) none }
unfolding minus_of negation_of postfix_of primary_of print_item_of simple_of statement_of and_part_of block_arm_of comparison_of comparison_part_of conjunction_of expression_of line_arm_of or_part_of pair_of parameter_of product_of product_part_of rest_of shift_of shift_part_of sum_of sum_part_of target_of value_of
simple-Call t =
    ap (f.fold-Simple _ _ _ _ _ _ _ _ _ _ _ _ _ _ _ _ _ _ _ _ _ _ _ _ _ _ _ _ _ _ _ _ _ _ _ _ _ _ _ _ _ _ _ _ _ _ _ _ _ _ _ _) (sym (simple.rolls-Call t))
    ∙ f.fold-roll-Simple _ _ _ _ _ _ _ _ _ _ _ _ _ _ _ _ _ _ _ _ _ _ _ _ _ _ _ _ _ _ _ _ _ _ _ _ _ _ _ _ _ _ _ _ _ _ _ _ _ _ _ _ (o.Call t)

pub simple-Print : (at : Place) (xs : List PrintItem) → simple_of (simple.Print at xs) ≡ record { doing = p.Print (map mark (map print_item_of xs)); place = at; operands = shown (map print_item_of xs) }
unfolding minus_of negation_of postfix_of primary_of print_item_of simple_of statement_of and_part_of block_arm_of comparison_of comparison_part_of conjunction_of expression_of line_arm_of or_part_of pair_of parameter_of product_of product_part_of rest_of shift_of shift_part_of sum_of sum_part_of target_of value_of
simple-Print at xs =
    ap (f.fold-Simple _ _ _ _ _ _ _ _ _ _ _ _ _ _ _ _ _ _ _ _ _ _ _ _ _ _ _ _ _ _ _ _ _ _ _ _ _ _ _ _ _ _ _ _ _ _ _ _ _ _ _ _) (sym (simple.rolls-Print at xs))
    ∙ f.fold-roll-Simple _ _ _ _ _ _ _ _ _ _ _ _ _ _ _ _ _ _ _ _ _ _ _ _ _ _ _ _ _ _ _ _ _ _ _ _ _ _ _ _ _ _ _ _ _ _ _ _ _ _ _ _ (o.Print at xs)

pub simple-Return-None : (at : Place) → simple_of (simple.Return at None) ≡ record { doing = p.Return; place = at; operands = none }
unfolding minus_of negation_of postfix_of primary_of print_item_of simple_of statement_of and_part_of block_arm_of comparison_of comparison_part_of conjunction_of expression_of line_arm_of or_part_of pair_of parameter_of product_of product_part_of rest_of shift_of shift_part_of sum_of sum_part_of target_of value_of
simple-Return-None at =
    ap (f.fold-Simple _ _ _ _ _ _ _ _ _ _ _ _ _ _ _ _ _ _ _ _ _ _ _ _ _ _ _ _ _ _ _ _ _ _ _ _ _ _ _ _ _ _ _ _ _ _ _ _ _ _ _ _) (sym (simple.rolls-Return at None))
    ∙ f.fold-roll-Simple _ _ _ _ _ _ _ _ _ _ _ _ _ _ _ _ _ _ _ _ _ _ _ _ _ _ _ _ _ _ _ _ _ _ _ _ _ _ _ _ _ _ _ _ _ _ _ _ _ _ _ _ (o.Return at None)

pub simple-Return-Some : (at : Place) (e : Expression) → simple_of (simple.Return at (Some e)) ≡ record { doing = p.Return; place = at; operands = more (expression_of e) none }
unfolding minus_of negation_of postfix_of primary_of print_item_of simple_of statement_of and_part_of block_arm_of comparison_of comparison_part_of conjunction_of expression_of line_arm_of or_part_of pair_of parameter_of product_of product_part_of rest_of shift_of shift_part_of sum_of sum_part_of target_of value_of
simple-Return-Some at e =
    ap (f.fold-Simple _ _ _ _ _ _ _ _ _ _ _ _ _ _ _ _ _ _ _ _ _ _ _ _ _ _ _ _ _ _ _ _ _ _ _ _ _ _ _ _ _ _ _ _ _ _ _ _ _ _ _ _) (sym (simple.rolls-Return at (Some e)))
    ∙ f.fold-roll-Simple _ _ _ _ _ _ _ _ _ _ _ _ _ _ _ _ _ _ _ _ _ _ _ _ _ _ _ _ _ _ _ _ _ _ _ _ _ _ _ _ _ _ _ _ _ _ _ _ _ _ _ _ (o.Return at (Some e))

pub simple-Exit : (at : Place) (k : LoopKind) → simple_of (simple.Exit at k) ≡ record { doing = p.Exit k; place = at; operands = none }
unfolding minus_of negation_of postfix_of primary_of print_item_of simple_of statement_of and_part_of block_arm_of comparison_of comparison_part_of conjunction_of expression_of line_arm_of or_part_of pair_of parameter_of product_of product_part_of rest_of shift_of shift_part_of sum_of sum_part_of target_of value_of
simple-Exit at k =
    ap (f.fold-Simple _ _ _ _ _ _ _ _ _ _ _ _ _ _ _ _ _ _ _ _ _ _ _ _ _ _ _ _ _ _ _ _ _ _ _ _ _ _ _ _ _ _ _ _ _ _ _ _ _ _ _ _) (sym (simple.rolls-Exit at k))
    ∙ f.fold-roll-Simple _ _ _ _ _ _ _ _ _ _ _ _ _ _ _ _ _ _ _ _ _ _ _ _ _ _ _ _ _ _ _ _ _ _ _ _ _ _ _ _ _ _ _ _ _ _ _ _ _ _ _ _ (o.Exit at k)

pub statement-Simple : (x : Simple) → statement_of (statement.Simple x) ≡ simple_of x
unfolding minus_of negation_of postfix_of primary_of print_item_of simple_of statement_of and_part_of block_arm_of comparison_of comparison_part_of conjunction_of expression_of line_arm_of or_part_of pair_of parameter_of product_of product_part_of rest_of shift_of shift_part_of sum_of sum_part_of target_of value_of
statement-Simple x =
    ap (f.fold-Statement _ _ _ _ _ _ _ _ _ _ _ _ _ _ _ _ _ _ _ _ _ _ _ _ _ _ _ _ _ _ _ _ _ _ _ _ _ _ _ _ _ _ _ _ _ _ _ _ _ _ _ _) (sym (statement.rolls-Simple x))
    ∙ f.fold-roll-Statement _ _ _ _ _ _ _ _ _ _ _ _ _ _ _ _ _ _ _ _ _ _ _ _ _ _ _ _ _ _ _ _ _ _ _ _ _ _ _ _ _ _ _ _ _ _ _ _ _ _ _ _ (o.Simple x)

pub statement-BlockIf-None : (c : BlockArm) (cs : List BlockArm) → statement_of (statement.BlockIf c cs None) ≡ if_step (block_arm_of c) (map block_arm_of cs) finish
unfolding minus_of negation_of postfix_of primary_of print_item_of simple_of statement_of and_part_of block_arm_of comparison_of comparison_part_of conjunction_of expression_of line_arm_of or_part_of pair_of parameter_of product_of product_part_of rest_of shift_of shift_part_of sum_of sum_part_of target_of value_of
statement-BlockIf-None c cs =
    ap (f.fold-Statement _ _ _ _ _ _ _ _ _ _ _ _ _ _ _ _ _ _ _ _ _ _ _ _ _ _ _ _ _ _ _ _ _ _ _ _ _ _ _ _ _ _ _ _ _ _ _ _ _ _ _ _) (sym (statement.rolls-BlockIf c cs None))
    ∙ f.fold-roll-Statement _ _ _ _ _ _ _ _ _ _ _ _ _ _ _ _ _ _ _ _ _ _ _ _ _ _ _ _ _ _ _ _ _ _ _ _ _ _ _ _ _ _ _ _ _ _ _ _ _ _ _ _ (o.BlockIf c cs None)

pub statement-BlockIf-Some : (c : BlockArm) (cs : List BlockArm) (b : List Statement) → statement_of (statement.BlockIf c cs (Some b)) ≡ if_step (block_arm_of c) (map block_arm_of cs) (todos (map statement_of b))
unfolding minus_of negation_of postfix_of primary_of print_item_of simple_of statement_of and_part_of block_arm_of comparison_of comparison_part_of conjunction_of expression_of line_arm_of or_part_of pair_of parameter_of product_of product_part_of rest_of shift_of shift_part_of sum_of sum_part_of target_of value_of
statement-BlockIf-Some c cs b =
    ap (f.fold-Statement _ _ _ _ _ _ _ _ _ _ _ _ _ _ _ _ _ _ _ _ _ _ _ _ _ _ _ _ _ _ _ _ _ _ _ _ _ _ _ _ _ _ _ _ _ _ _ _ _ _ _ _) (sym (statement.rolls-BlockIf c cs (Some b)))
    ∙ f.fold-roll-Statement _ _ _ _ _ _ _ _ _ _ _ _ _ _ _ _ _ _ _ _ _ _ _ _ _ _ _ _ _ _ _ _ _ _ _ _ _ _ _ _ _ _ _ _ _ _ _ _ _ _ _ _ (o.BlockIf c cs (Some b))

pub statement-LineIf-None : (c : LineArm) (cs : List LineArm) → statement_of (statement.LineIf c cs None) ≡ if_step (line_arm_of c) (map line_arm_of cs) finish
unfolding minus_of negation_of postfix_of primary_of print_item_of simple_of statement_of and_part_of block_arm_of comparison_of comparison_part_of conjunction_of expression_of line_arm_of or_part_of pair_of parameter_of product_of product_part_of rest_of shift_of shift_part_of sum_of sum_part_of target_of value_of
statement-LineIf-None c cs =
    ap (f.fold-Statement _ _ _ _ _ _ _ _ _ _ _ _ _ _ _ _ _ _ _ _ _ _ _ _ _ _ _ _ _ _ _ _ _ _ _ _ _ _ _ _ _ _ _ _ _ _ _ _ _ _ _ _) (sym (statement.rolls-LineIf c cs None))
    ∙ f.fold-roll-Statement _ _ _ _ _ _ _ _ _ _ _ _ _ _ _ _ _ _ _ _ _ _ _ _ _ _ _ _ _ _ _ _ _ _ _ _ _ _ _ _ _ _ _ _ _ _ _ _ _ _ _ _ (o.LineIf c cs None)

pub statement-LineIf-Some : (c : LineArm) (cs : List LineArm) (b : List Simple) → statement_of (statement.LineIf c cs (Some b)) ≡ if_step (line_arm_of c) (map line_arm_of cs) (todos (map simple_of b))
unfolding minus_of negation_of postfix_of primary_of print_item_of simple_of statement_of and_part_of block_arm_of comparison_of comparison_part_of conjunction_of expression_of line_arm_of or_part_of pair_of parameter_of product_of product_part_of rest_of shift_of shift_part_of sum_of sum_part_of target_of value_of
statement-LineIf-Some c cs b =
    ap (f.fold-Statement _ _ _ _ _ _ _ _ _ _ _ _ _ _ _ _ _ _ _ _ _ _ _ _ _ _ _ _ _ _ _ _ _ _ _ _ _ _ _ _ _ _ _ _ _ _ _ _ _ _ _ _) (sym (statement.rolls-LineIf c cs (Some b)))
    ∙ f.fold-roll-Statement _ _ _ _ _ _ _ _ _ _ _ _ _ _ _ _ _ _ _ _ _ _ _ _ _ _ _ _ _ _ _ _ _ _ _ _ _ _ _ _ _ _ _ _ _ _ _ _ _ _ _ _ (o.LineIf c cs (Some b))

pub statement-For-None : (at : Place) (x : Name) (a : Expression) (b : Expression) (body : List Statement) → statement_of (statement.For at x a b None body) ≡ record { doing = p.For x.place (folded x.text) (todos (map statement_of body)); place = at; operands = more (expression_of a) (more (expression_of b) none) }
unfolding minus_of negation_of postfix_of primary_of print_item_of simple_of statement_of and_part_of block_arm_of comparison_of comparison_part_of conjunction_of expression_of line_arm_of or_part_of pair_of parameter_of product_of product_part_of rest_of shift_of shift_part_of sum_of sum_part_of target_of value_of
statement-For-None at x a b body =
    ap (f.fold-Statement _ _ _ _ _ _ _ _ _ _ _ _ _ _ _ _ _ _ _ _ _ _ _ _ _ _ _ _ _ _ _ _ _ _ _ _ _ _ _ _ _ _ _ _ _ _ _ _ _ _ _ _) (sym (statement.rolls-For at x a b None body))
    ∙ f.fold-roll-Statement _ _ _ _ _ _ _ _ _ _ _ _ _ _ _ _ _ _ _ _ _ _ _ _ _ _ _ _ _ _ _ _ _ _ _ _ _ _ _ _ _ _ _ _ _ _ _ _ _ _ _ _ (o.For at x a b None body)

pub statement-For-Some : (at : Place) (x : Name) (a : Expression) (b : Expression) (s : Expression) (body : List Statement) → statement_of (statement.For at x a b (Some s) body) ≡ record { doing = p.For x.place (folded x.text) (todos (map statement_of body)); place = at; operands = more (expression_of a) (more (expression_of b) (more (expression_of s) none)) }
unfolding minus_of negation_of postfix_of primary_of print_item_of simple_of statement_of and_part_of block_arm_of comparison_of comparison_part_of conjunction_of expression_of line_arm_of or_part_of pair_of parameter_of product_of product_part_of rest_of shift_of shift_part_of sum_of sum_part_of target_of value_of
statement-For-Some at x a b s body =
    ap (f.fold-Statement _ _ _ _ _ _ _ _ _ _ _ _ _ _ _ _ _ _ _ _ _ _ _ _ _ _ _ _ _ _ _ _ _ _ _ _ _ _ _ _ _ _ _ _ _ _ _ _ _ _ _ _) (sym (statement.rolls-For at x a b (Some s) body))
    ∙ f.fold-roll-Statement _ _ _ _ _ _ _ _ _ _ _ _ _ _ _ _ _ _ _ _ _ _ _ _ _ _ _ _ _ _ _ _ _ _ _ _ _ _ _ _ _ _ _ _ _ _ _ _ _ _ _ _ (o.For at x a b (Some s) body)

pub statement-ForEach : (at : Place) (x : Name) (e : Expression) (body : List Statement) → statement_of (statement.ForEach at x e body) ≡ record { doing = p.ForEach x.place (folded x.text) (todos (map statement_of body)); place = at; operands = more (expression_of e) none }
unfolding minus_of negation_of postfix_of primary_of print_item_of simple_of statement_of and_part_of block_arm_of comparison_of comparison_part_of conjunction_of expression_of line_arm_of or_part_of pair_of parameter_of product_of product_part_of rest_of shift_of shift_part_of sum_of sum_part_of target_of value_of
statement-ForEach at x e body =
    ap (f.fold-Statement _ _ _ _ _ _ _ _ _ _ _ _ _ _ _ _ _ _ _ _ _ _ _ _ _ _ _ _ _ _ _ _ _ _ _ _ _ _ _ _ _ _ _ _ _ _ _ _ _ _ _ _) (sym (statement.rolls-ForEach at x e body))
    ∙ f.fold-roll-Statement _ _ _ _ _ _ _ _ _ _ _ _ _ _ _ _ _ _ _ _ _ _ _ _ _ _ _ _ _ _ _ _ _ _ _ _ _ _ _ _ _ _ _ _ _ _ _ _ _ _ _ _ (o.ForEach at x e body)

pub statement-While : (at : Place) (e : Expression) (body : List Statement) → statement_of (statement.While at e body) ≡ record { doing = p.While (expression_of e) (todos (map statement_of body)); place = at; operands = none }
unfolding minus_of negation_of postfix_of primary_of print_item_of simple_of statement_of and_part_of block_arm_of comparison_of comparison_part_of conjunction_of expression_of line_arm_of or_part_of pair_of parameter_of product_of product_part_of rest_of shift_of shift_part_of sum_of sum_part_of target_of value_of
statement-While at e body =
    ap (f.fold-Statement _ _ _ _ _ _ _ _ _ _ _ _ _ _ _ _ _ _ _ _ _ _ _ _ _ _ _ _ _ _ _ _ _ _ _ _ _ _ _ _ _ _ _ _ _ _ _ _ _ _ _ _) (sym (statement.rolls-While at e body))
    ∙ f.fold-roll-Statement _ _ _ _ _ _ _ _ _ _ _ _ _ _ _ _ _ _ _ _ _ _ _ _ _ _ _ _ _ _ _ _ _ _ _ _ _ _ _ _ _ _ _ _ _ _ _ _ _ _ _ _ (o.While at e body)

pub ruleset views = (
  minus-Negative,
  minus-Positive,
  negation-Not,
  negation-Plain,
  postfix-Member,
  postfix-Index,
  postfix-Arguments,
  primary-Number,
  primary-Text,
  primary-True,
  primary-False,
  primary-Invalid,
  primary-Variable,
  primary-Bracketed,
  primary-Array,
  primary-Pairs,
  primary-AnonymousFunction,
  primary-AnonymousSub,
  print-item-Semicolon,
  print-item-Comma,
  print-item-Value,
  simple-Assign,
  simple-Update,
  simple-Count,
  simple-Call,
  simple-Print,
  simple-Return-None,
  simple-Return-Some,
  simple-Exit,
  statement-Simple,
  statement-BlockIf-None,
  statement-BlockIf-Some,
  statement-LineIf-None,
  statement-LineIf-Some,
  statement-For-None,
  statement-For-Some,
  statement-ForEach,
  statement-While,
  and-part-out,
  block-arm-out,
  comparison-out,
  comparison-part-out,
  conjunction-out,
  expression-out,
  line-arm-out,
  or-part-out,
  pair-out,
  product-out,
  product-part-out,
  rest-out,
  shift-out,
  shift-part-out,
  sum-out,
  sum-part-out,
  target-out,
  value-out,
  parameter-out,
)
