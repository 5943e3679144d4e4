-- What each part of a tree takes, from what its parts take.
use Rattle.std.proofs.Common.{◌≡◌, suc, true, false, List, [], ◌∷◌, Option, None, Some, map, refl, sym, ap, ◌∙◌, subst}
use Rattle.std.specs.Prelude.{All, IfSome, length}
use Rattle.std.proofs.lemmas.List.Elements.{All-map}
use Rattle.brs_tokens.specs.declared.place.Place.{Place}
use Rattle.brs_grammar.specs.declared.tree.Minus.{Minus}
use Rattle.brs_grammar.specs.declared.tree.Minus.TheVariants as minus
use Rattle.brs_grammar.specs.declared.tree.Negation.{Negation}
use Rattle.brs_grammar.specs.declared.tree.Negation.TheVariants as negation
use Rattle.brs_grammar.specs.declared.tree.Postfix.{Postfix, out-Postfix, roll-Postfix}
use Rattle.brs_grammar.specs.declared.tree.Postfix.TheVariants as postfix
use Rattle.brs_grammar.specs.declared.tree.Primary.{Primary}
use Rattle.brs_grammar.specs.declared.tree.Primary.TheVariants as primary
use Rattle.brs_grammar.specs.declared.tree.PrintItem.{PrintItem}
use Rattle.brs_grammar.specs.declared.tree.PrintItem.TheVariants as printed
use Rattle.brs_grammar.specs.declared.tree.Simple.{Simple}
use Rattle.brs_grammar.specs.declared.tree.Simple.TheVariants as simple
use Rattle.brs_grammar.specs.declared.tree.Statement.{Statement}
use Rattle.brs_grammar.specs.declared.tree.Statement.TheVariants as statement
use Rattle.brs_grammar.specs.declared.tree.AndPart.{AndPart, roll-AndPart}
use Rattle.brs_grammar.specs.declared.tree.BlockArm.{BlockArm, roll-BlockArm}
use Rattle.brs_grammar.specs.declared.tree.Comparison.{Comparison, roll-Comparison}
use Rattle.brs_grammar.specs.declared.tree.ComparisonPart.{ComparisonPart, roll-ComparisonPart}
use Rattle.brs_grammar.specs.declared.tree.Conjunction.{Conjunction, roll-Conjunction}
use Rattle.brs_grammar.specs.declared.tree.Expression.{Expression, roll-Expression}
use Rattle.brs_grammar.specs.declared.tree.LineArm.{LineArm, roll-LineArm}
use Rattle.brs_grammar.specs.declared.tree.OrPart.{OrPart, roll-OrPart}
use Rattle.brs_grammar.specs.declared.tree.Pair.{Pair, roll-Pair}
use Rattle.brs_grammar.specs.declared.tree.Parameter.{Parameter, roll-Parameter}
use Rattle.brs_grammar.specs.declared.tree.Product.{Product, roll-Product}
use Rattle.brs_grammar.specs.declared.tree.ProductPart.{ProductPart, roll-ProductPart}
use Rattle.brs_grammar.specs.declared.tree.Rest.{Rest, roll-Rest}
use Rattle.brs_grammar.specs.declared.tree.Shift.{Shift, roll-Shift}
use Rattle.brs_grammar.specs.declared.tree.ShiftPart.{ShiftPart, roll-ShiftPart}
use Rattle.brs_grammar.specs.declared.tree.Sum.{Sum, roll-Sum}
use Rattle.brs_grammar.specs.declared.tree.SumPart.{SumPart, roll-SumPart}
use Rattle.brs_grammar.specs.declared.tree.Target.{Target, out-Target, roll-Target}
use Rattle.brs_grammar.specs.declared.tree.Value.{Value, roll-Value}
use Rattle.brs_grammar.specs.declared.tree.Minus.TheOpen as open_
use Rattle.brs_grammar.specs.declared.tree.Minus.TheOpen.{Postfix-F, AndPart-F, BlockArm-F, Comparison-F, ComparisonPart-F, Conjunction-F, Expression-F, LineArm-F, OrPart-F, Pair-F, Parameter-F, Product-F, ProductPart-F, Rest-F, Shift-F, ShiftPart-F, Sum-F, SumPart-F, Target-F, Value-F}
use Rattle.brs_grammar.specs.declared.tree.Minus.TheViews.{out-roll-AndPart, out-roll-BlockArm, out-roll-Comparison, out-roll-ComparisonPart, out-roll-Conjunction, out-roll-Expression, out-roll-LineArm, out-roll-OrPart, out-roll-Pair, out-roll-Parameter, out-roll-Product, out-roll-ProductPart, out-roll-Rest, out-roll-Shift, out-roll-ShiftPart, out-roll-Sum, out-roll-SumPart, out-roll-Target, out-roll-Value, out-roll-Postfix, roll-out-Postfix}
use Rattle.brs_grammar.specs.declared.tree.ComparisonSign.{ComparisonSign}
use Rattle.brs_grammar.specs.declared.tree.CountSign.{CountSign}
use Rattle.brs_grammar.specs.declared.tree.LoopKind.{LoopKind}
use Rattle.brs_grammar.specs.declared.tree.ProductSign.{ProductSign}
use Rattle.brs_grammar.specs.declared.tree.ShiftSign.{ShiftSign}
use Rattle.brs_grammar.specs.declared.tree.SumSign.{SumSign}
use Rattle.brs_grammar.specs.declared.tree.TypeWord.{TypeWord}
use Rattle.brs_grammar.specs.declared.tree.UpdateSign.{UpdateSign}
use Rattle.brs_grammar.specs.declared.tree.Key.{Key}
use Rattle.brs_grammar.specs.declared.tree.Name.{Name}
use Rattle.brs_grammar.specs.declared.tree.NamedFunction.{NamedFunction}
use Rattle.brs_grammar.specs.declared.tree.NamedFunction.TheVariants as named
use Rattle.brs_tokens.specs.declared.number.NumberValue.{NumberValue}
use Rattle.brs_tokens.specs.declared.number.NumberValue.TheVariants as number
use Rattle.brs_grammar.specs.Form as p
use Rattle.brs_grammar.specs.Form.{Text, Node, none, more}
use Rattle.brs_grammar.specs.Parts.{Aim, Entry, chained, tailed, forms, one, counted, params, todos}
use lib.Chars.{codes}
use Rattle.chan_values.specs.Folded.{folded}
use Rattle.brs_grammar.specs.Statements.{is_call, last_is_call, ends_in_call}
use Rattle.brs_grammar.specs.View.{minus_of, negation_of, postfix_of, primary_of, print_item_of, simple_of, statement_of, and_part_of, block_arm_of, comparison_of, comparison_part_of, conjunction_of, expression_of, line_arm_of, or_part_of, pair_of, parameter_of, product_of, product_part_of, rest_of, shift_of, shift_part_of, sum_of, sum_part_of, target_of, value_of}
use Rattle.brs_grammar.proofs.PartViews.{formal_of}
use Rattle.brs_grammar.proofs.Views as v
use Rattle.brs_forms.specs.Words.{number_of}
use Rattle.brs_code.specs.Instruction.{pops}
use Rattle.code_relation.specs.Heads.{count, number_instr}
use Rattle.code_relation.specs.Standing.{named_form}
use Rattle.code_lowering.specs.Takes.{FormTakes, FormsTake, ParamsTake, TodoTakes, CalleeTakes, FunctionTakes}
use Rattle.form_operands.proofs.Takes.{OperandTakes, TailTakes, PrintedTakes, StepTakes, ChoiceTakes, FormalTakes, forms_take, shown_take, shown_count, todos_take, params_take, if_takes, chained_takes, variable_takes, tailed_takes, called_takes, IsAim, EndsInAim, assign_takes, update_takes}

-- ---- what each part takes

-- one layer of a tree, with its parts
abbrev Opened : (Type 0 → Type 0 → Type 0 → Type 0 → Type 0 → Type 0 → Type 0 → Type 0 → Type 0 → Type 0 → Type 0 → Type 0 → Type 0 → Type 0 → Type 0 → Type 0 → Type 0 → Type 0 → Type 0 → Type 0 → Type 0 → Type 0 → Type 0 → Type 0 → Type 0 → Type 0 → Type 0) → Type 0
Opened F = F Minus Negation Postfix Primary PrintItem Simple Statement AndPart BlockArm Comparison ComparisonPart Conjunction Expression LineArm OrPart Pair Parameter Product ProductPart Rest Shift ShiftPart Sum SumPart Target Value

abbrev pub ExpressionTakes : Expression → Type 0
ExpressionTakes x = FormTakes (expression_of x)

abbrev pub ConjunctionTakes : Conjunction → Type 0
ConjunctionTakes x = FormTakes (conjunction_of x)

abbrev pub NegationTakes : Negation → Type 0
NegationTakes x = FormTakes (negation_of x)

abbrev pub ComparisonTakes : Comparison → Type 0
ComparisonTakes x = FormTakes (comparison_of x)

abbrev pub ShiftTakes : Shift → Type 0
ShiftTakes x = FormTakes (shift_of x)

abbrev pub SumTakes : Sum → Type 0
SumTakes x = FormTakes (sum_of x)

abbrev pub ProductTakes : Product → Type 0
ProductTakes x = FormTakes (product_of x)

abbrev pub MinusTakes : Minus → Type 0
MinusTakes x = FormTakes (minus_of x)

abbrev pub ValueTakes : Value → Type 0
ValueTakes x = FormTakes (value_of x)

abbrev pub PrimaryTakes : Primary → Type 0
PrimaryTakes x = FormTakes (primary_of x)

abbrev pub OrPartTakes : OrPart → Type 0
OrPartTakes x = OperandTakes (or_part_of x)

abbrev pub AndPartTakes : AndPart → Type 0
AndPartTakes x = OperandTakes (and_part_of x)

abbrev pub ComparisonPartTakes : ComparisonPart → Type 0
ComparisonPartTakes x = OperandTakes (comparison_part_of x)

abbrev pub ShiftPartTakes : ShiftPart → Type 0
ShiftPartTakes x = OperandTakes (shift_part_of x)

abbrev pub SumPartTakes : SumPart → Type 0
SumPartTakes x = OperandTakes (sum_part_of x)

abbrev pub ProductPartTakes : ProductPart → Type 0
ProductPartTakes x = OperandTakes (product_part_of x)

abbrev pub PostfixTakes : Postfix → Type 0
PostfixTakes x = TailTakes (postfix_of x)

abbrev pub PrintItemTakes : PrintItem → Type 0
PrintItemTakes x = PrintedTakes (print_item_of x)

abbrev pub SimpleTakes : Simple → Type 0
SimpleTakes x = StepTakes (simple_of x)

abbrev pub StatementTakes : Statement → Type 0
StatementTakes x = StepTakes (statement_of x)

abbrev pub BlockArmTakes : BlockArm → Type 0
BlockArmTakes x = ChoiceTakes (block_arm_of x)

abbrev pub LineArmTakes : LineArm → Type 0
LineArmTakes x = ChoiceTakes (line_arm_of x)

abbrev pub ParameterTakes : Parameter → Type 0
ParameterTakes x = FormalTakes (parameter_of x)

abbrev pub RestTakes : Rest → Type 0
RestTakes x = CalleeTakes (rest_of x)

abbrev pub PairTakes : Pair → Type 0
PairTakes x = FormTakes (pair_of x).value

abbrev pub TargetTakes : Target → Type 0
TargetTakes x = All PostfixTakes (out-Target x).more

abbrev pub NamedTakes : NamedFunction → Type 0
NamedTakes x = FunctionTakes (named_form x)

-- ---- operators

pub or_part_takes : (at : Place) (x : Conjunction) → ConjunctionTakes x → OrPartTakes (roll-OrPart (record { place = at; operand = x }))
or_part_takes at x t =
    subst OperandTakes (sym (v.or-part-out (roll-OrPart (record { place = at; operand = x })))) (λ n. refl, tt, subst (λ (y : Opened OrPart-F). ConjunctionTakes y.operand) (sym (out-roll-OrPart (record { place = at; operand = x }))) t)

pub and_part_takes : (at : Place) (x : Negation) → NegationTakes x → AndPartTakes (roll-AndPart (record { place = at; operand = x }))
and_part_takes at x t =
    subst OperandTakes (sym (v.and-part-out (roll-AndPart (record { place = at; operand = x })))) (λ n. refl, tt, subst (λ (y : Opened AndPart-F). NegationTakes y.operand) (sym (out-roll-AndPart (record { place = at; operand = x }))) t)

pub comparison_part_takes : (at : Place) (s : ComparisonSign) (x : Shift) → ShiftTakes x → ComparisonPartTakes (roll-ComparisonPart (record { place = at; sign = s; operand = x }))
comparison_part_takes at s x t =
    subst OperandTakes (sym (v.comparison-part-out (roll-ComparisonPart (record { place = at; sign = s; operand = x })))) (λ n. refl, tt, subst (λ (y : Opened ComparisonPart-F). ShiftTakes y.operand) (sym (out-roll-ComparisonPart (record { place = at; sign = s; operand = x }))) t)

pub shift_part_takes : (at : Place) (s : ShiftSign) (x : Sum) → SumTakes x → ShiftPartTakes (roll-ShiftPart (record { place = at; sign = s; operand = x }))
shift_part_takes at s x t =
    subst OperandTakes (sym (v.shift-part-out (roll-ShiftPart (record { place = at; sign = s; operand = x })))) (λ n. refl, tt, subst (λ (y : Opened ShiftPart-F). SumTakes y.operand) (sym (out-roll-ShiftPart (record { place = at; sign = s; operand = x }))) t)

pub sum_part_takes : (at : Place) (s : SumSign) (x : Product) → ProductTakes x → SumPartTakes (roll-SumPart (record { place = at; sign = s; operand = x }))
sum_part_takes at s x t =
    subst OperandTakes (sym (v.sum-part-out (roll-SumPart (record { place = at; sign = s; operand = x })))) (λ n. refl, tt, subst (λ (y : Opened SumPart-F). ProductTakes y.operand) (sym (out-roll-SumPart (record { place = at; sign = s; operand = x }))) t)

pub product_part_takes : (at : Place) (s : ProductSign) (x : Minus) → MinusTakes x → ProductPartTakes (roll-ProductPart (record { place = at; sign = s; operand = x }))
product_part_takes at s x t =
    subst OperandTakes (sym (v.product-part-out (roll-ProductPart (record { place = at; sign = s; operand = x })))) (λ n. refl, tt, subst (λ (y : Opened ProductPart-F). MinusTakes y.operand) (sym (out-roll-ProductPart (record { place = at; sign = s; operand = x }))) t)

pub expression_takes : (x : Conjunction) (ys : List OrPart) → ConjunctionTakes x → All OrPartTakes ys → ExpressionTakes (roll-Expression (record { first = x; more = ys }))
expression_takes x ys t a =
    subst FormTakes (sym (v.expression-out (roll-Expression (record { first = x; more = ys })) ∙ ap (λ (y : Opened Expression-F). chained (conjunction_of y.first) (map or_part_of y.more)) (out-roll-Expression (record { first = x; more = ys }))))
    (chained_takes (conjunction_of x) (map or_part_of ys) t (All-map OperandTakes or_part_of ys a))

pub conjunction_takes : (x : Negation) (ys : List AndPart) → NegationTakes x → All AndPartTakes ys → ConjunctionTakes (roll-Conjunction (record { first = x; more = ys }))
conjunction_takes x ys t a =
    subst FormTakes (sym (v.conjunction-out (roll-Conjunction (record { first = x; more = ys })) ∙ ap (λ (y : Opened Conjunction-F). chained (negation_of y.first) (map and_part_of y.more)) (out-roll-Conjunction (record { first = x; more = ys }))))
    (chained_takes (negation_of x) (map and_part_of ys) t (All-map OperandTakes and_part_of ys a))

pub comparison_takes : (x : Shift) (ys : List ComparisonPart) → ShiftTakes x → All ComparisonPartTakes ys → ComparisonTakes (roll-Comparison (record { first = x; more = ys }))
comparison_takes x ys t a =
    subst FormTakes (sym (v.comparison-out (roll-Comparison (record { first = x; more = ys })) ∙ ap (λ (y : Opened Comparison-F). chained (shift_of y.first) (map comparison_part_of y.more)) (out-roll-Comparison (record { first = x; more = ys }))))
    (chained_takes (shift_of x) (map comparison_part_of ys) t (All-map OperandTakes comparison_part_of ys a))

pub shift_takes : (x : Sum) (ys : List ShiftPart) → SumTakes x → All ShiftPartTakes ys → ShiftTakes (roll-Shift (record { first = x; more = ys }))
shift_takes x ys t a =
    subst FormTakes (sym (v.shift-out (roll-Shift (record { first = x; more = ys })) ∙ ap (λ (y : Opened Shift-F). chained (sum_of y.first) (map shift_part_of y.more)) (out-roll-Shift (record { first = x; more = ys }))))
    (chained_takes (sum_of x) (map shift_part_of ys) t (All-map OperandTakes shift_part_of ys a))

pub sum_takes : (x : Product) (ys : List SumPart) → ProductTakes x → All SumPartTakes ys → SumTakes (roll-Sum (record { first = x; more = ys }))
sum_takes x ys t a =
    subst FormTakes (sym (v.sum-out (roll-Sum (record { first = x; more = ys })) ∙ ap (λ (y : Opened Sum-F). chained (product_of y.first) (map sum_part_of y.more)) (out-roll-Sum (record { first = x; more = ys }))))
    (chained_takes (product_of x) (map sum_part_of ys) t (All-map OperandTakes sum_part_of ys a))

pub product_takes : (x : Minus) (ys : List ProductPart) → MinusTakes x → All ProductPartTakes ys → ProductTakes (roll-Product (record { first = x; more = ys }))
product_takes x ys t a =
    subst FormTakes (sym (v.product-out (roll-Product (record { first = x; more = ys })) ∙ ap (λ (y : Opened Product-F). chained (minus_of y.first) (map product_part_of y.more)) (out-roll-Product (record { first = x; more = ys }))))
    (chained_takes (minus_of x) (map product_part_of ys) t (All-map OperandTakes product_part_of ys a))

pub value_takes : (x : Primary) (ys : List Postfix) → PrimaryTakes x → All PostfixTakes ys → ValueTakes (roll-Value (record { first = x; more = ys }))
value_takes x ys t a =
    subst FormTakes (sym (v.value-out (roll-Value (record { first = x; more = ys })) ∙ ap (λ (y : Opened Value-F). tailed (primary_of y.first) (map postfix_of y.more)) (out-roll-Value (record { first = x; more = ys }))))
    (tailed_takes (primary_of x) (map postfix_of ys) t (All-map TailTakes postfix_of ys a))

pub negative_takes : (at : Place) (x : Minus) → MinusTakes x → MinusTakes (minus.Negative at x)
negative_takes at x t = subst FormTakes (sym (v.minus-Negative at x)) (λ n. refl, tt, (t, tt))

pub positive_takes : (x : Value) → ValueTakes x → MinusTakes (minus.Positive x)
positive_takes x t = subst FormTakes (sym (v.minus-Positive x)) t

pub not_takes : (at : Place) (x : Negation) → NegationTakes x → NegationTakes (negation.Not at x)
not_takes at x t = subst FormTakes (sym (v.negation-Not at x)) (λ n. refl, tt, (t, tt))

pub plain_takes : (x : Comparison) → ComparisonTakes x → NegationTakes (negation.Plain x)
plain_takes x t = subst FormTakes (sym (v.negation-Plain x)) t

-- ---- what stands behind a value

pub member_takes : (at : Place) (x : Name) → PostfixTakes (postfix.Member at x)
member_takes at x = subst TailTakes (sym (v.postfix-Member at x)) tt

pub index_takes : (at : Place) (e : Expression) → ExpressionTakes e → PostfixTakes (postfix.Index at e)
index_takes at e t = subst TailTakes (sym (v.postfix-Index at e)) t

expressions_take : (es : List Expression) → All ExpressionTakes es → FormsTake (forms (map expression_of es))
expressions_take es a = forms_take (map expression_of es) (All-map FormTakes expression_of es a)

pub arguments_take : (at : Place) (es : List Expression) → All ExpressionTakes es → PostfixTakes (postfix.Arguments at es)
arguments_take at es a = subst TailTakes (sym (v.postfix-Arguments at es)) (expressions_take es a)

-- ---- primary expressions

number_pops : (x : NumberValue) → pops (number_instr x) ≡ 0
number_pops (number.Integer n) = refl
number_pops (number.LongInteger n) = refl

pub number_takes : (at : Place) (t : Text) → PrimaryTakes (primary.Number at t)
number_takes at t = subst FormTakes (sym (v.primary-Number at t)) (λ n. number_pops (number_of t), tt, tt)

pub text_takes : (at : Place) (t : Text) → PrimaryTakes (primary.Text at t)
text_takes at t = subst FormTakes (sym (v.primary-Text at t)) (λ n. refl, tt, tt)

pub true_takes : (at : Place) → PrimaryTakes (primary.True at)
true_takes at = subst FormTakes (sym (v.primary-True at)) (λ n. refl, tt, tt)

pub false_takes : (at : Place) → PrimaryTakes (primary.False at)
false_takes at = subst FormTakes (sym (v.primary-False at)) (λ n. refl, tt, tt)

pub invalid_takes : (at : Place) → PrimaryTakes (primary.Invalid at)
invalid_takes at = subst FormTakes (sym (v.primary-Invalid at)) (λ n. refl, tt, tt)

pub name_takes : (x : Name) → PrimaryTakes (primary.Variable x)
name_takes x = subst FormTakes (sym (v.primary-Variable x)) (variable_takes x.place (folded x.text))

pub bracketed_takes : (at : Place) (e : Expression) → ExpressionTakes e → PrimaryTakes (primary.Bracketed at e)
bracketed_takes at e t = subst FormTakes (sym (v.primary-Bracketed at e)) t

pub array_takes : (at : Place) (es : List Expression) → All ExpressionTakes es → PrimaryTakes (primary.Array at es)
array_takes at es a = subst FormTakes (sym (v.primary-Array at es)) (λ n. refl, tt, expressions_take es a)

-- as many values as keys
entries_count : (xs : List Entry) → length (map (λ (x : Entry). x.key) xs) ≡ count (forms (map (λ (x : Entry). x.value) xs))
entries_count [] = refl
entries_count (x ∷ xs) = ap suc (entries_count xs)

entries_take : (xs : List Entry) → All (λ (x : Entry). FormTakes x.value) xs → FormsTake (forms (map (λ (x : Entry). x.value) xs))
entries_take xs a = forms_take (map (λ (x : Entry). x.value) xs) (All-map FormTakes (λ (x : Entry). x.value) xs a)

pub pairs_take : (at : Place) (xs : List Pair) → All PairTakes xs → PrimaryTakes (primary.Pairs at xs)
pairs_take at xs a =
    subst FormTakes (sym (v.primary-Pairs at xs)) (λ n. refl, entries_count (map pair_of xs), entries_take (map pair_of xs) (All-map (λ (x : Entry). FormTakes x.value) pair_of xs a))

pub pair_takes : (k : Key) (e : Expression) → ExpressionTakes e → PairTakes (roll-Pair (record { key = k; value = e }))
pair_takes k e t =
    subst (λ (y : Entry). FormTakes y.value) (sym (v.pair-out (roll-Pair (record { key = k; value = e })))) (subst (λ (y : Opened Pair-F). ExpressionTakes y.value) (sym (out-roll-Pair (record { key = k; value = e }))) t)

pub anonymous_function_takes : (at : Place) (r : Rest) → RestTakes r → PrimaryTakes (primary.AnonymousFunction at r)
anonymous_function_takes at r t = subst FormTakes (sym (v.primary-AnonymousFunction at r)) (λ n. refl, t, tt)

pub anonymous_sub_takes : (at : Place) (r : Rest) → RestTakes r → PrimaryTakes (primary.AnonymousSub at r)
anonymous_sub_takes at r t = subst FormTakes (sym (v.primary-AnonymousSub at r)) (λ n. refl, t, tt)

-- ---- targets

open_is_aim : (y : Opened Postfix-F) → is_call (roll-Postfix y) ≡ false → IsAim (postfix_of (roll-Postfix y))
open_is_aim (open_.Member at x) h = subst IsAim (sym (ap postfix_of (postfix.rolls-Member at x) ∙ v.postfix-Member at x)) tt
open_is_aim (open_.Index at e) h = subst IsAim (sym (ap postfix_of (postfix.rolls-Index at e) ∙ v.postfix-Index at e)) tt
open_is_aim (open_.Arguments at es) h =
    let is : is_call (roll-Postfix (open_.Arguments at es)) ≡ true = ap (λ w. elim w [ open_.Arguments there xs ↦ true | _ ↦ false ]) (out-roll-Postfix (open_.Arguments at es)) in
    absurd (cc (is, h))

is_aim : (x : Postfix) → is_call x ≡ false → IsAim (postfix_of x)
is_aim x = subst (λ z. is_call z ≡ false → IsAim (postfix_of z)) (roll-out-Postfix x) (open_is_aim (out-Postfix x))

last_is_aim : (x : Postfix) (xs : List Postfix) → last_is_call (x ∷ xs) ≡ false → EndsInAim (map postfix_of (x ∷ xs))
last_is_aim x [] h = is_aim x h
last_is_aim x (y ∷ ys) h = last_is_aim y ys h

ends_in_aim : (xs : List Postfix) → last_is_call xs ≡ false → EndsInAim (map postfix_of xs)
ends_in_aim [] h = tt
ends_in_aim (x ∷ xs) h = last_is_aim x xs h

aims : (x : Target) → ends_in_call x ≡ false → EndsInAim (target_of x).tails
aims x h = subst (λ (a : Aim). EndsInAim a.tails) (sym (v.target-out x)) (ends_in_aim (out-Target x).more h)

tails_take : (x : Target) → TargetTakes x → All TailTakes (target_of x).tails
tails_take x a = subst (λ (a : Aim). All TailTakes a.tails) (sym (v.target-out x)) (All-map TailTakes postfix_of (out-Target x).more a)

pub target_takes : (n : Name) (xs : List Postfix) → All PostfixTakes xs → TargetTakes (roll-Target (record { name = n; more = xs }))
target_takes n xs a = subst (λ (y : Opened Target-F). All PostfixTakes y.more) (sym (out-roll-Target (record { name = n; more = xs }))) a

-- ---- statements of one line

pub assign_takes_operands : (x : Target) (at : Place) (e : Expression) → ends_in_call x ≡ false → TargetTakes x → ExpressionTakes e → SimpleTakes (simple.Assign x at e)
assign_takes_operands x at e h a t = subst StepTakes (sym (v.simple-Assign x at e)) (assign_takes (target_of x) (expression_of e) (aims x h) (tails_take x a) t)

pub update_takes_operands : (x : Target) (at : Place) (s : UpdateSign) (e : Expression) → ends_in_call x ≡ false → TargetTakes x → ExpressionTakes e → SimpleTakes (simple.Update x at s e)
update_takes_operands x at s e h a t = subst StepTakes (sym (v.simple-Update x at s e)) (update_takes (target_of x) at s (expression_of e) (aims x h) (tails_take x a) t)

pub count_takes : (x : Target) (at : Place) (s : CountSign) → ends_in_call x ≡ false → TargetTakes x → SimpleTakes (simple.Count x at s)
count_takes x at s h a =
    subst StepTakes (sym (v.simple-Count x at s)) (update_takes (target_of x) at (counted s) (one at) (aims x h) (tails_take x a) (λ n. number_pops (number_of (codes "1")), tt, tt))

pub call_takes : (x : Target) → TargetTakes x → SimpleTakes (simple.Call x)
call_takes x a = subst StepTakes (sym (v.simple-Call x)) ((called_takes (target_of x) (tails_take x a), tt), refl)

pub semicolon_takes : PrintItemTakes printed.Semicolon
semicolon_takes = subst PrintedTakes (sym v.print-item-Semicolon) tt

pub comma_takes : PrintItemTakes printed.Comma
comma_takes = subst PrintedTakes (sym v.print-item-Comma) tt

pub shown_value_takes : (e : Expression) → ExpressionTakes e → PrintItemTakes (printed.Value e)
shown_value_takes e t = subst PrintedTakes (sym (v.print-item-Value e)) t

pub print_takes : (at : Place) (xs : List PrintItem) → All PrintItemTakes xs → SimpleTakes (simple.Print at xs)
print_takes at xs a =
    subst StepTakes (sym (v.simple-Print at xs)) (shown_take (map print_item_of xs) (All-map PrintedTakes print_item_of xs a), shown_count (map print_item_of xs))

pub return_takes : (at : Place) (e : Option Expression) → IfSome e ExpressionTakes → SimpleTakes (simple.Return at e)
return_takes at None t = subst StepTakes (sym (v.simple-Return-None at)) (tt, refl)
return_takes at (Some e) t = subst StepTakes (sym (v.simple-Return-Some at e)) ((t, tt), refl)

pub exit_takes : (at : Place) (k : LoopKind) → SimpleTakes (simple.Exit at k)
exit_takes at k = subst StepTakes (sym (v.simple-Exit at k)) (tt, refl)

-- ---- blocks

pub run_takes : (xs : List Simple) → All SimpleTakes xs → TodoTakes (todos (map simple_of xs))
run_takes xs a = todos_take (map simple_of xs) (All-map StepTakes simple_of xs a)

pub block_takes : (xs : List Statement) → All StatementTakes xs → TodoTakes (todos (map statement_of xs))
block_takes xs a = todos_take (map statement_of xs) (All-map StepTakes statement_of xs a)

pub line_arm_takes : (at : Place) (e : Expression) (xs : List Simple) → ExpressionTakes e → All SimpleTakes xs → LineArmTakes (roll-LineArm (record { place = at; condition = e; run = xs }))
line_arm_takes at e xs t a =
    subst ChoiceTakes (sym (v.line-arm-out (roll-LineArm (record { place = at; condition = e; run = xs }))))
    (subst (λ (y : Opened LineArm-F). ExpressionTakes y.condition × TodoTakes (todos (map simple_of y.run))) (sym (out-roll-LineArm (record { place = at; condition = e; run = xs }))) (t, run_takes xs a))

pub block_arm_takes : (at : Place) (e : Expression) (xs : List Statement) → ExpressionTakes e → All StatementTakes xs → BlockArmTakes (roll-BlockArm (record { place = at; condition = e; block = xs }))
block_arm_takes at e xs t a =
    subst ChoiceTakes (sym (v.block-arm-out (roll-BlockArm (record { place = at; condition = e; block = xs }))))
    (subst (λ (y : Opened BlockArm-F). ExpressionTakes y.condition × TodoTakes (todos (map statement_of y.block))) (sym (out-roll-BlockArm (record { place = at; condition = e; block = xs }))) (t, block_takes xs a))

pub line_if_takes : (c : LineArm) (cs : List LineArm) (other : Option (List Simple)) → LineArmTakes c → All LineArmTakes cs → IfSome other (All SimpleTakes) → StatementTakes (statement.LineIf c cs other)
line_if_takes c cs None t a b = subst StepTakes (sym (v.statement-LineIf-None c cs)) (if_takes (line_arm_of c) (map line_arm_of cs) p.finish t (All-map ChoiceTakes line_arm_of cs a) tt)
line_if_takes c cs (Some xs) t a b =
    subst StepTakes (sym (v.statement-LineIf-Some c cs xs)) (if_takes (line_arm_of c) (map line_arm_of cs) (todos (map simple_of xs)) t (All-map ChoiceTakes line_arm_of cs a) (run_takes xs b))

pub block_if_takes : (c : BlockArm) (cs : List BlockArm) (other : Option (List Statement)) → BlockArmTakes c → All BlockArmTakes cs → IfSome other (All StatementTakes) → StatementTakes (statement.BlockIf c cs other)
block_if_takes c cs None t a b = subst StepTakes (sym (v.statement-BlockIf-None c cs)) (if_takes (block_arm_of c) (map block_arm_of cs) p.finish t (All-map ChoiceTakes block_arm_of cs a) tt)
block_if_takes c cs (Some xs) t a b =
    subst StepTakes (sym (v.statement-BlockIf-Some c cs xs)) (if_takes (block_arm_of c) (map block_arm_of cs) (todos (map statement_of xs)) t (All-map ChoiceTakes block_arm_of cs a) (block_takes xs b))

pub for_takes : (at : Place) (x : Name) (a b : Expression) (s : Option Expression) (body : List Statement) → ExpressionTakes a → ExpressionTakes b → IfSome s ExpressionTakes → All StatementTakes body → StatementTakes (statement.For at x a b s body)
for_takes at x a b None body t u w all = subst StepTakes (sym (v.statement-For-None at x a b body)) ((t, (u, tt)), (λ n. refl, block_takes body all))
for_takes at x a b (Some s) body t u w all = subst StepTakes (sym (v.statement-For-Some at x a b s body)) ((t, (u, (w, tt))), (λ n. refl, block_takes body all))

pub for_each_takes : (at : Place) (x : Name) (e : Expression) (body : List Statement) → ExpressionTakes e → All StatementTakes body → StatementTakes (statement.ForEach at x e body)
for_each_takes at x e body t all = subst StepTakes (sym (v.statement-ForEach at x e body)) ((t, tt), (refl, block_takes body all))

pub while_takes : (at : Place) (e : Expression) (body : List Statement) → ExpressionTakes e → All StatementTakes body → StatementTakes (statement.While at e body)
while_takes at e body t all = subst StepTakes (sym (v.statement-While at e body)) (tt, (refl, t, block_takes body all))

pub simple_statement_takes : (x : Simple) → SimpleTakes x → StatementTakes (statement.Simple x)
simple_statement_takes x t = subst StepTakes (sym (v.statement-Simple x)) t

-- ---- functions

formal_takes : (x : Name) (d : Option Expression) (k : Option TypeWord) → IfSome d ExpressionTakes → FormalTakes (formal_of x d k)
formal_takes x None k t = tt
formal_takes x (Some e) k t = t

pub a_parameter_takes : (x : Name) (d : Option Expression) (k : Option TypeWord) → IfSome d ExpressionTakes → ParameterTakes (roll-Parameter (record { name = x; default = d; kind = k }))
a_parameter_takes x d k t =
    subst FormalTakes (sym (v.parameter-out (roll-Parameter (record { name = x; default = d; kind = k })) ∙ ap (λ (y : Opened Parameter-F). formal_of y.name y.default y.kind) (out-roll-Parameter (record { name = x; default = d; kind = k })))) (formal_takes x d k t)

pub rest_takes : (xs : List Parameter) (k : Option TypeWord) (b : List Statement) → All ParameterTakes xs → All StatementTakes b → RestTakes (roll-Rest (record { parameters = xs; value = k; body = b }))
rest_takes xs k b a t =
    subst CalleeTakes (sym (v.rest-out (roll-Rest (record { parameters = xs; value = k; body = b }))))
    (subst (λ (y : Opened Rest-F). ParamsTake (params (map parameter_of y.parameters)) × TodoTakes (todos (map statement_of y.body))) (sym (out-roll-Rest (record { parameters = xs; value = k; body = b })))
    (params_take (map parameter_of xs) (All-map FormalTakes parameter_of xs a), block_takes b t))

pub function_takes : (at : Place) (x : Name) (r : Rest) → RestTakes r → NamedTakes (named.Function at x r)
function_takes at x r t = t

pub sub_takes : (at : Place) (x : Name) (r : Rest) → RestTakes r → NamedTakes (named.Sub at x r)
sub_takes at x r t = t
