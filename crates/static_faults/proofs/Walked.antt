-- The static faults of each part of a tree, from those of its parts: one equation for each form.
use Rattle.std.proofs.Common.{◌≡◌, ℕ, ◌+◌, ◌<◌, ◌≤◌, true, List, [], ◌∷◌, ◌++◌, Option, None, Some, length, map, take, get_or, refl, sym, ap, ◌∙◌, append_assoc}
use Rattle.std.proofs.lemmas.List.{take_more, take_all, append-nil}
use Rattle.chan_values.specs.Folded.{folded}
use Rattle.brs_tokens.specs.declared.place.Place.{Place}
use Rattle.brs_grammar.specs.declared.tree.CountSign.{CountSign}
use Rattle.brs_grammar.specs.declared.tree.LoopKind.{LoopKind}
use Rattle.brs_grammar.specs.declared.tree.Minus.{Minus}
use Rattle.brs_grammar.specs.declared.tree.Minus.TheVariants as minus
use Rattle.brs_grammar.specs.declared.tree.Name.{Name}
use Rattle.brs_grammar.specs.declared.tree.NamedFunction.TheVariants as named
use Rattle.brs_grammar.specs.declared.tree.Negation.{Negation}
use Rattle.brs_grammar.specs.declared.tree.Negation.TheVariants as negation
use Rattle.brs_grammar.specs.declared.tree.Postfix.TheVariants as postfix
use Rattle.brs_grammar.specs.declared.tree.Primary.TheVariants as primary
use Rattle.brs_grammar.specs.declared.tree.PrintItem.{PrintItem}
use Rattle.brs_grammar.specs.declared.tree.PrintItem.TheVariants as printed
use Rattle.brs_grammar.specs.declared.tree.Simple.{Simple}
use Rattle.brs_grammar.specs.declared.tree.Simple.TheVariants as simple
use Rattle.brs_grammar.specs.declared.tree.Statement.{Statement}
use Rattle.brs_grammar.specs.declared.tree.Statement.TheVariants as statement
use Rattle.brs_grammar.specs.declared.tree.UpdateSign.{UpdateSign}
use Rattle.brs_grammar.specs.declared.tree.AndPart.{AndPart, out-AndPart}
use Rattle.brs_grammar.specs.declared.tree.BlockArm.{BlockArm, out-BlockArm}
use Rattle.brs_grammar.specs.declared.tree.Comparison.{Comparison, out-Comparison}
use Rattle.brs_grammar.specs.declared.tree.ComparisonPart.{ComparisonPart, out-ComparisonPart}
use Rattle.brs_grammar.specs.declared.tree.Conjunction.{Conjunction, out-Conjunction}
use Rattle.brs_grammar.specs.declared.tree.Expression.{Expression, out-Expression}
use Rattle.brs_grammar.specs.declared.tree.LineArm.{LineArm, out-LineArm}
use Rattle.brs_grammar.specs.declared.tree.OrPart.{OrPart, out-OrPart}
use Rattle.brs_grammar.specs.declared.tree.Pair.{Pair, out-Pair}
use Rattle.brs_grammar.specs.declared.tree.Parameter.{Parameter, out-Parameter}
use Rattle.brs_grammar.specs.declared.tree.Product.{Product, out-Product}
use Rattle.brs_grammar.specs.declared.tree.ProductPart.{ProductPart, out-ProductPart}
use Rattle.brs_grammar.specs.declared.tree.Rest.{Rest, out-Rest}
use Rattle.brs_grammar.specs.declared.tree.Shift.{Shift, out-Shift}
use Rattle.brs_grammar.specs.declared.tree.ShiftPart.{ShiftPart, out-ShiftPart}
use Rattle.brs_grammar.specs.declared.tree.Sum.{Sum, out-Sum}
use Rattle.brs_grammar.specs.declared.tree.SumPart.{SumPart, out-SumPart}
use Rattle.brs_grammar.specs.declared.tree.Target.{Target, out-Target}
use Rattle.brs_grammar.specs.declared.tree.Value.{Value, out-Value}
use Rattle.brs_grammar.specs.Form as p
use Rattle.brs_grammar.specs.Form.{Text, Form, Node, more, none, Todo, finish}
use Rattle.brs_grammar.specs.View.{Entry, Formal, Callee, Aim, params, todos, called, variable, one, counted, update_step, minus_of, negation_of, postfix_of, primary_of, print_item_of, simple_of, statement_of, and_part_of, block_arm_of, comparison_part_of, conjunction_of, expression_of, line_arm_of, or_part_of, pair_of, parameter_of, product_of, product_part_of, rest_of, shift_of, shift_part_of, sum_of, sum_part_of, target_of}
use Rattle.brs_grammar.proofs.Views as v
use Rattle.static_faults.specs.declared.fault.StaticFault.{StaticFault}
use Rattle.static_faults.specs.declared.fault.Surroundings.{Surroundings}
use Rattle.static_faults.specs.First.{earlier, first_by_place}
use Rattle.static_faults.specs.Table.{gives_value, variable_faults, parameter_faults, exit_faults, returned_value_faults}
use Rattle.static_faults.specs.Faults.{inside, form_faults, params_faults, todo_faults}
use Rattle.static_faults.specs.Parts.{flat, operand_faults, tail_faults, printed_faults, step_faults, choice_faults, callee_faults, expression_faults, or_part_faults, conjunction_faults, and_part_faults, negation_faults, comparison_faults, comparison_part_faults, shift_faults, shift_part_faults, sum_faults, sum_part_faults, product_faults, product_part_faults, minus_faults, value_faults, postfix_faults, primary_faults, pair_faults, print_item_faults, plain_faults, target_faults, simple_faults, statement_faults, block_arm_faults, line_arm_faults, rest_faults, default_faults, name_of, names, each_parameter_faults, all_parameter_faults, body_faults}
use Rattle.static_faults.proofs.Earlier.{first_append}
use Rattle.static_faults.proofs.NameLists.{map_append}
use Rattle.static_faults.proofs.Forms.{flat_append, flat_map, chained_faults, tailed_faults, forms_all, shown_all, assign_all, update_all, plain_map, todos_all, if_all}

-- one more turn of a loop over a list, behind what stands before the loop
pub flat_more : {A : Type 0} (front : List StaticFault) (g : A → List StaticFault) (found one found' : Option StaticFault) (xs : List A) (i : ℕ) (x : A) → i < length xs → x ≡ get_or xs i x
    → found ≡ first_by_place (front ++ flat g (take i xs)) → one ≡ first_by_place (g x) → found' ≡ earlier found one → found' ≡ first_by_place (front ++ flat g (take (i + 1) xs))
flat_more front g found one found' xs i x h at was is new =
    new ∙ ap (λ f. earlier f one) was ∙ ap (earlier (first_by_place (front ++ flat g (take i xs)))) is
    ∙ sym (first_append (front ++ flat g (take i xs)) (g x))
    ∙ ap first_by_place (append_assoc front (flat g (take i xs)) (g x))
    ∙ ap (λ l. first_by_place (front ++ l)) (sym (flat_append g (take i xs) x) ∙ ap (λ y. flat g (take i xs ++ y ∷ [])) at ∙ ap (flat g) (sym (take_more xs i x h)))

-- a loop over a list is through
pub flat_done : {A : Type 0} (front : List StaticFault) (g : A → List StaticFault) (found : Option StaticFault) (items xs : List A) (i : ℕ) (whole : List StaticFault) → length items ≤ i → items ≡ xs
    → found ≡ first_by_place (front ++ flat g (take i items)) → whole ≡ front ++ flat g xs → found ≡ first_by_place whole
flat_done front g found items xs i whole h same was is =
    was ∙ ap (λ l. first_by_place (front ++ flat g l)) (take_all i items h ∙ same) ∙ ap first_by_place (sym is)

-- ---- expressions

pub or_part_is : (x : OrPart) → or_part_faults x ≡ conjunction_faults (out-OrPart x).operand
or_part_is x = ap operand_faults (v.or-part-out x) ∙ append-nil _

pub expression_is : (e : Expression) → expression_faults e ≡ conjunction_faults (out-Expression e).first ++ flat or_part_faults (out-Expression e).more
expression_is e = ap form_faults (v.expression-out e) ∙ chained_faults or_part_of (conjunction_of (out-Expression e).first) (out-Expression e).more

pub and_part_is : (x : AndPart) → and_part_faults x ≡ negation_faults (out-AndPart x).operand
and_part_is x = ap operand_faults (v.and-part-out x) ∙ append-nil _

pub conjunction_is : (e : Conjunction) → conjunction_faults e ≡ negation_faults (out-Conjunction e).first ++ flat and_part_faults (out-Conjunction e).more
conjunction_is e = ap form_faults (v.conjunction-out e) ∙ chained_faults and_part_of (negation_of (out-Conjunction e).first) (out-Conjunction e).more

pub not_is : (at : Place) (x : Negation) → negation_faults (negation.Not at x) ≡ negation_faults x
not_is at x = ap form_faults (v.negation-Not at x) ∙ simp append-nil

pub plain_is : (x : Comparison) → negation_faults (negation.Plain x) ≡ comparison_faults x
plain_is x = ap form_faults (v.negation-Plain x)

pub comparison_part_is : (x : ComparisonPart) → comparison_part_faults x ≡ shift_faults (out-ComparisonPart x).operand
comparison_part_is x = ap operand_faults (v.comparison-part-out x) ∙ append-nil _

pub comparison_is : (e : Comparison) → comparison_faults e ≡ shift_faults (out-Comparison e).first ++ flat comparison_part_faults (out-Comparison e).more
comparison_is e = ap form_faults (v.comparison-out e) ∙ chained_faults comparison_part_of (shift_of (out-Comparison e).first) (out-Comparison e).more

pub shift_part_is : (x : ShiftPart) → shift_part_faults x ≡ sum_faults (out-ShiftPart x).operand
shift_part_is x = ap operand_faults (v.shift-part-out x) ∙ append-nil _

pub shift_is : (e : Shift) → shift_faults e ≡ sum_faults (out-Shift e).first ++ flat shift_part_faults (out-Shift e).more
shift_is e = ap form_faults (v.shift-out e) ∙ chained_faults shift_part_of (sum_of (out-Shift e).first) (out-Shift e).more

pub sum_part_is : (x : SumPart) → sum_part_faults x ≡ product_faults (out-SumPart x).operand
sum_part_is x = ap operand_faults (v.sum-part-out x) ∙ append-nil _

pub sum_is : (e : Sum) → sum_faults e ≡ product_faults (out-Sum e).first ++ flat sum_part_faults (out-Sum e).more
sum_is e = ap form_faults (v.sum-out e) ∙ chained_faults sum_part_of (product_of (out-Sum e).first) (out-Sum e).more

pub product_part_is : (x : ProductPart) → product_part_faults x ≡ minus_faults (out-ProductPart x).operand
product_part_is x = ap operand_faults (v.product-part-out x) ∙ append-nil _

pub product_is : (e : Product) → product_faults e ≡ minus_faults (out-Product e).first ++ flat product_part_faults (out-Product e).more
product_is e = ap form_faults (v.product-out e) ∙ chained_faults product_part_of (minus_of (out-Product e).first) (out-Product e).more

pub negative_is : (at : Place) (x : Minus) → minus_faults (minus.Negative at x) ≡ minus_faults x
negative_is at x = ap form_faults (v.minus-Negative at x) ∙ simp append-nil

pub positive_is : (x : Value) → minus_faults (minus.Positive x) ≡ value_faults x
positive_is x = ap form_faults (v.minus-Positive x)

pub value_is : (x : Value) → value_faults x ≡ primary_faults (out-Value x).first ++ flat postfix_faults (out-Value x).more
value_is x = ap form_faults (v.value-out x) ∙ tailed_faults postfix_of (primary_of (out-Value x).first) (out-Value x).more

pub member_is : (at : Place) (x : Name) → postfix_faults (postfix.Member at x) ≡ []
member_is at x = ap tail_faults (v.postfix-Member at x)

pub index_is : (at : Place) (e : Expression) → postfix_faults (postfix.Index at e) ≡ expression_faults e
index_is at e = ap tail_faults (v.postfix-Index at e)

pub arguments_is : (at : Place) (es : List Expression) → postfix_faults (postfix.Arguments at es) ≡ flat expression_faults es
arguments_is at es = ap tail_faults (v.postfix-Arguments at es) ∙ forms_all expression_of es

pub pair_is : (x : Pair) → pair_faults x ≡ expression_faults (out-Pair x).value
pair_is x = ap (λ (y : Entry). form_faults y.value) (v.pair-out x)

pub number_is : (at : Place) (t : Text) → primary_faults (primary.Number at t) ≡ []
number_is at t = ap form_faults (v.primary-Number at t)

pub text_is : (at : Place) (t : Text) → primary_faults (primary.Text at t) ≡ []
text_is at t = ap form_faults (v.primary-Text at t)

pub true_is : (at : Place) → primary_faults (primary.True at) ≡ []
true_is at = ap form_faults (v.primary-True at)

pub false_is : (at : Place) → primary_faults (primary.False at) ≡ []
false_is at = ap form_faults (v.primary-False at)

pub invalid_is : (at : Place) → primary_faults (primary.Invalid at) ≡ []
invalid_is at = ap form_faults (v.primary-Invalid at)

pub variable_is : (x : Name) → primary_faults (primary.Variable x) ≡ []
variable_is x = ap form_faults (v.primary-Variable x)

pub bracketed_is : (at : Place) (e : Expression) → primary_faults (primary.Bracketed at e) ≡ expression_faults e
bracketed_is at e = ap form_faults (v.primary-Bracketed at e)

pub array_is : (at : Place) (es : List Expression) → primary_faults (primary.Array at es) ≡ flat expression_faults es
array_is at es = ap form_faults (v.primary-Array at es) ∙ append-nil _ ∙ forms_all expression_of es

pub pairs_is : (at : Place) (xs : List Pair) → primary_faults (primary.Pairs at xs) ≡ flat pair_faults xs
pairs_is at xs = ap form_faults (v.primary-Pairs at xs) ∙ append-nil _ ∙ forms_all (λ (x : Entry). x.value) (map pair_of xs) ∙ flat_map (λ (x : Entry). form_faults x.value) pair_of xs

-- ---- functions

callee_value : (r : Rest) → (rest_of r).value ≡ (out-Rest r).value
callee_value r = ap (λ (c : Callee). c.value) (v.rest-out r)

pub function_is : (at : Place) (r : Rest) → primary_faults (primary.AnonymousFunction at r) ≡ rest_faults (gives_value p.FunctionKind (out-Rest r).value) r
function_is at r = ap form_faults (v.primary-AnonymousFunction at r) ∙ ap (λ t. rest_faults (gives_value p.FunctionKind t) r) (callee_value r)

pub sub_is : (at : Place) (r : Rest) → primary_faults (primary.AnonymousSub at r) ≡ rest_faults (gives_value p.SubKind (out-Rest r).value) r
sub_is at r = ap form_faults (v.primary-AnonymousSub at r) ∙ ap (λ t. rest_faults (gives_value p.SubKind t) r) (callee_value r)

pub named_function_is : (at : Place) (x : Name) (r : Rest) → body_faults (named.Function at x r) ≡ rest_faults (gives_value p.FunctionKind (out-Rest r).value) r
named_function_is at x r = ap (λ t. rest_faults (gives_value p.FunctionKind t) r) (callee_value r)

pub named_sub_is : (at : Place) (x : Name) (r : Rest) → body_faults (named.Sub at x r) ≡ rest_faults (gives_value p.SubKind (out-Rest r).value) r
named_sub_is at x r = ap (λ t. rest_faults (gives_value p.SubKind t) r) (callee_value r)

abbrev formal_faults : List Text → Formal → List StaticFault
formal_faults before x = elim x.default [ None ↦ parameter_faults before x.name x.place | Some e ↦ parameter_faults before x.name x.place ++ form_faults e ]

formal_name : (x : Parameter) → (parameter_of x).name ≡ name_of x
formal_name x = ap (λ (z : Formal). z.name) (v.parameter-out x) ∙ go (out-Parameter x).default
  where
    go : (d : Option Expression) → (v.formal_of (out-Parameter x).name d (out-Parameter x).kind).name ≡ name_of x
    go None = refl
    go (Some e) = refl

parameter_is : (before : List Parameter) (x : Parameter) → formal_faults (names before) (parameter_of x) ≡ each_parameter_faults before x
parameter_is before x = ap (formal_faults (names before)) (v.parameter-out x) ∙ go (out-Parameter x).default
  where
    go : (d : Option Expression) → formal_faults (names before) (v.formal_of (out-Parameter x).name d (out-Parameter x).kind) ≡ parameter_faults (names before) (name_of x) (out-Parameter x).name.place ++ default_faults d
    go None = sym (append-nil _)
    go (Some e) = refl

formal_cases : (before : List Text) (x : Formal) (xs : List Formal) → params_faults before (params (x ∷ xs)) ≡ formal_faults before x ++ params_faults (before ++ x.name ∷ []) (params xs)
formal_cases before x xs = go x.default
  where
    go : (d : Option Form) → params_faults before (params ((record x { default = d }) ∷ xs)) ≡ formal_faults before (record x { default = d }) ++ params_faults (before ++ x.name ∷ []) (params xs)
    go None = refl
    go (Some e) = refl

params_all : (before ps : List Parameter) → params_faults (names before) (params (map parameter_of ps)) ≡ all_parameter_faults before ps
params_all before [] = refl
params_all before (x ∷ xs) =
    formal_cases (names before) (parameter_of x) (map parameter_of xs)
    ∙ ap (λ l. l ++ params_faults (names before ++ (parameter_of x).name ∷ []) (params (map parameter_of xs))) (parameter_is before x)
    ∙ ap (λ n. each_parameter_faults before x ++ params_faults (names before ++ n ∷ []) (params (map parameter_of xs))) (formal_name x)
    ∙ ap (λ ns. each_parameter_faults before x ++ params_faults ns (params (map parameter_of xs))) (sym (map_append name_of before x))
    ∙ ap (λ l. each_parameter_faults before x ++ l) (params_all (before ++ x ∷ []) xs)

all_parameter_append : (before ps : List Parameter) (x : Parameter) → all_parameter_faults before (ps ++ x ∷ []) ≡ all_parameter_faults before ps ++ each_parameter_faults (before ++ ps) x
all_parameter_append before [] x = append-nil _ ∙ ap (λ b. each_parameter_faults b x) (sym (append-nil before))
all_parameter_append before (y ∷ ys) x =
    ap (λ l. each_parameter_faults before y ++ l) (all_parameter_append (before ++ y ∷ []) ys x)
    ∙ ap (λ b. each_parameter_faults before y ++ (all_parameter_faults (before ++ y ∷ []) ys ++ each_parameter_faults b x)) (append_assoc before (y ∷ []) ys)
    ∙ sym (append_assoc (each_parameter_faults before y) _ _)

-- one more turn of the loop over parameters
pub parameters_more : (found own inner both found' : Option StaticFault) (xs : List Parameter) (i : ℕ) (x : Parameter) → i < length xs → x ≡ get_or xs i x
    → found ≡ first_by_place (all_parameter_faults [] (take i xs)) → own ≡ first_by_place (parameter_faults (names (take i xs)) (name_of x) (out-Parameter x).name.place)
    → inner ≡ first_by_place (default_faults (out-Parameter x).default) → both ≡ earlier own inner → found' ≡ earlier found both
    → found' ≡ first_by_place (all_parameter_faults [] (take (i + 1) xs))
parameters_more found own inner both found' xs i x h at was is deep joint new =
    let seen = all_parameter_faults [] (take i xs) in
    let mine = each_parameter_faults (take i xs) x in
    let one : both ≡ first_by_place mine = joint ∙ ap (λ f. earlier f inner) is ∙ ap (earlier (first_by_place (parameter_faults (names (take i xs)) (name_of x) (out-Parameter x).name.place))) deep ∙ sym (first_append (parameter_faults (names (take i xs)) (name_of x) (out-Parameter x).name.place) (default_faults (out-Parameter x).default)) in
    new ∙ ap (λ f. earlier f both) was ∙ ap (earlier (first_by_place seen)) one ∙ sym (first_append seen mine)
    ∙ ap first_by_place (sym (all_parameter_append [] (take i xs) x))
    ∙ ap (λ y. first_by_place (all_parameter_faults [] (take i xs ++ y ∷ []))) at
    ∙ ap (λ l. first_by_place (all_parameter_faults [] l)) (sym (take_more xs i x h))

pub rest_is : (gives : _) (r : Rest) → rest_faults gives r ≡ all_parameter_faults [] (out-Rest r).parameters ++ flat (statement_faults (inside gives)) (out-Rest r).body
rest_is gives r =
    ap (callee_faults gives) (v.rest-out r)
    ∙ ap (λ l. l ++ todo_faults (inside gives) (todos (map statement_of (out-Rest r).body))) (params_all [] (out-Rest r).parameters)
    ∙ ap (λ l. all_parameter_faults [] (out-Rest r).parameters ++ l) (todos_all statement_of (inside gives) (out-Rest r).body)

-- ---- statements in one line

pub semicolon_is : print_item_faults printed.Semicolon ≡ []
semicolon_is = ap printed_faults v.print-item-Semicolon

pub comma_is : print_item_faults printed.Comma ≡ []
comma_is = ap printed_faults v.print-item-Comma

pub shown_is : (e : Expression) → print_item_faults (printed.Value e) ≡ expression_faults e
shown_is e = ap printed_faults (v.print-item-Value e)

pub assign_is : (s : Surroundings) (t : Target) (at : Place) (e : Expression) → simple_faults s (simple.Assign t at e) ≡ (flat postfix_faults (out-Target t).more ++ expression_faults e) ++ target_faults t
assign_is s t at e =
    let l = out-Target t in
    ap (step_faults s) (v.simple-Assign t at e) ∙ assign_all s (target_of t) (expression_of e)
    ∙ ap (λ (a : Aim). (flat tail_faults a.tails ++ expression_faults e) ++ plain_faults a.name a.place a.tails) (v.target-out t)
    ∙ ap (λ z. (z ++ expression_faults e) ++ plain_faults (folded l.name.text) l.name.place (map postfix_of l.more)) (flat_map tail_faults postfix_of l.more)
    ∙ ap (λ z. (flat postfix_faults l.more ++ expression_faults e) ++ z) (plain_map postfix_of (folded l.name.text) l.name.place l.more)

update_form : (s : Surroundings) (t : Target) (at : Place) (sign : UpdateSign) (e : Form) → step_faults s (update_step (target_of t) at sign e) ≡ flat postfix_faults (out-Target t).more ++ (target_faults t ++ form_faults e)
update_form s t at sign e =
    let l = out-Target t in
    update_all s (target_of t) at sign e
    ∙ ap (λ (a : Aim). flat tail_faults a.tails ++ (plain_faults a.name a.place a.tails ++ form_faults e)) (v.target-out t)
    ∙ ap (λ z. z ++ (plain_faults (folded l.name.text) l.name.place (map postfix_of l.more) ++ form_faults e)) (flat_map tail_faults postfix_of l.more)
    ∙ ap (λ z. flat postfix_faults l.more ++ (z ++ form_faults e)) (plain_map postfix_of (folded l.name.text) l.name.place l.more)

pub update_is : (s : Surroundings) (t : Target) (at : Place) (sign : UpdateSign) (e : Expression) → simple_faults s (simple.Update t at sign e) ≡ flat postfix_faults (out-Target t).more ++ (target_faults t ++ expression_faults e)
update_is s t at sign e = ap (step_faults s) (v.simple-Update t at sign e) ∙ update_form s t at sign (expression_of e)

pub count_is : (s : Surroundings) (t : Target) (at : Place) (sign : CountSign) → simple_faults s (simple.Count t at sign) ≡ flat postfix_faults (out-Target t).more ++ target_faults t
count_is s t at sign = ap (step_faults s) (v.simple-Count t at sign) ∙ update_form s t at (counted sign) (one at) ∙ ap (λ l. flat postfix_faults (out-Target t).more ++ l) (append-nil (target_faults t))

pub call_is : (s : Surroundings) (t : Target) → simple_faults s (simple.Call t) ≡ flat postfix_faults (out-Target t).more
call_is s t =
    let l = out-Target t in
    ap (step_faults s) (v.simple-Call t)
    ∙ ap (λ (a : Aim). (form_faults (called a) ++ []) ++ []) (v.target-out t)
    ∙ append-nil _ ∙ append-nil _ ∙ tailed_faults postfix_of (variable l.name.place (folded l.name.text)) l.more

pub print_is : (s : Surroundings) (at : Place) (xs : List PrintItem) → simple_faults s (simple.Print at xs) ≡ flat print_item_faults xs
print_is s at xs = ap (step_faults s) (v.simple-Print at xs) ∙ append-nil _ ∙ shown_all print_item_of xs

pub return_is : (s : Surroundings) (at : Place) → simple_faults s (simple.Return at None) ≡ []
return_is s at = ap (step_faults s) (v.simple-Return-None at)

pub return_value_is : (s : Surroundings) (at : Place) (e : Expression) → simple_faults s (simple.Return at (Some e)) ≡ expression_faults e ++ returned_value_faults s at
return_value_is s at e = ap (step_faults s) (v.simple-Return-Some at e) ∙ ap (λ l. l ++ returned_value_faults s at) (append-nil (expression_faults e))

pub exit_is : (s : Surroundings) (at : Place) (kind : LoopKind) → simple_faults s (simple.Exit at kind) ≡ exit_faults s kind at
exit_is s at kind = ap (step_faults s) (v.simple-Exit at kind)

-- ---- statements of a block

pub simple_is : (s : Surroundings) (x : Simple) → statement_faults s (statement.Simple x) ≡ simple_faults s x
simple_is s x = ap (step_faults s) (v.statement-Simple x)

pub block_arm_is : (s : Surroundings) (a : BlockArm) → block_arm_faults s a ≡ expression_faults (out-BlockArm a).condition ++ flat (statement_faults s) (out-BlockArm a).block
block_arm_is s a = ap (choice_faults s) (v.block-arm-out a) ∙ ap (λ l. expression_faults (out-BlockArm a).condition ++ l) (todos_all statement_of s (out-BlockArm a).block)

pub block_if_is : (s : Surroundings) (c : BlockArm) (cs : List BlockArm) → statement_faults s (statement.BlockIf c cs None) ≡ block_arm_faults s c ++ flat (block_arm_faults s) cs
block_if_is s c cs = ap (step_faults s) (v.statement-BlockIf-None c cs) ∙ if_all block_arm_of s c cs finish ∙ ap (λ l. block_arm_faults s c ++ l) (append-nil (flat (block_arm_faults s) cs))

pub block_if_else_is : (s : Surroundings) (c : BlockArm) (cs : List BlockArm) (b : List Statement) → statement_faults s (statement.BlockIf c cs (Some b)) ≡ block_arm_faults s c ++ (flat (block_arm_faults s) cs ++ flat (statement_faults s) b)
block_if_else_is s c cs b =
    ap (step_faults s) (v.statement-BlockIf-Some c cs b) ∙ if_all block_arm_of s c cs (todos (map statement_of b))
    ∙ ap (λ l. block_arm_faults s c ++ (flat (block_arm_faults s) cs ++ l)) (todos_all statement_of s b)

pub line_arm_is : (s : Surroundings) (a : LineArm) → line_arm_faults s a ≡ expression_faults (out-LineArm a).condition ++ flat (simple_faults s) (out-LineArm a).run
line_arm_is s a = ap (choice_faults s) (v.line-arm-out a) ∙ ap (λ l. expression_faults (out-LineArm a).condition ++ l) (todos_all simple_of s (out-LineArm a).run)

pub line_if_is : (s : Surroundings) (c : LineArm) (cs : List LineArm) → statement_faults s (statement.LineIf c cs None) ≡ line_arm_faults s c ++ flat (line_arm_faults s) cs
line_if_is s c cs = ap (step_faults s) (v.statement-LineIf-None c cs) ∙ if_all line_arm_of s c cs finish ∙ ap (λ l. line_arm_faults s c ++ l) (append-nil (flat (line_arm_faults s) cs))

pub line_if_else_is : (s : Surroundings) (c : LineArm) (cs : List LineArm) (b : List Simple) → statement_faults s (statement.LineIf c cs (Some b)) ≡ line_arm_faults s c ++ (flat (line_arm_faults s) cs ++ flat (simple_faults s) b)
line_if_else_is s c cs b =
    ap (step_faults s) (v.statement-LineIf-Some c cs b) ∙ if_all line_arm_of s c cs (todos (map simple_of b))
    ∙ ap (λ l. line_arm_faults s c ++ (flat (line_arm_faults s) cs ++ l)) (todos_all simple_of s b)

abbrev in_for : Surroundings → Surroundings
in_for s = record s { in_for = true }

pub for_is : (s : Surroundings) (at : Place) (x : Name) (a b : Expression) (body : List Statement) → statement_faults s (statement.For at x a b None body) ≡ (expression_faults a ++ expression_faults b) ++ (variable_faults (folded x.text) x.place ++ flat (statement_faults (record s { in_for = true })) body)
for_is s at x a b body =
    ap (step_faults s) (v.statement-For-None at x a b body)
    ∙ ap (λ l. (expression_faults a ++ l) ++ (variable_faults (folded x.text) x.place ++ todo_faults (in_for s) (todos (map statement_of body)))) (append-nil (expression_faults b))
    ∙ ap (λ l. (expression_faults a ++ expression_faults b) ++ (variable_faults (folded x.text) x.place ++ l)) (todos_all statement_of (in_for s) body)

pub for_step_is : (s : Surroundings) (at : Place) (x : Name) (a b c : Expression) (body : List Statement) → statement_faults s (statement.For at x a b (Some c) body) ≡ (expression_faults a ++ (expression_faults b ++ expression_faults c)) ++ (variable_faults (folded x.text) x.place ++ flat (statement_faults (record s { in_for = true })) body)
for_step_is s at x a b c body =
    ap (step_faults s) (v.statement-For-Some at x a b c body)
    ∙ ap (λ l. (expression_faults a ++ (expression_faults b ++ l)) ++ (variable_faults (folded x.text) x.place ++ todo_faults (in_for s) (todos (map statement_of body)))) (append-nil (expression_faults c))
    ∙ ap (λ l. (expression_faults a ++ (expression_faults b ++ expression_faults c)) ++ (variable_faults (folded x.text) x.place ++ l)) (todos_all statement_of (in_for s) body)

pub for_each_is : (s : Surroundings) (at : Place) (x : Name) (e : Expression) (body : List Statement) → statement_faults s (statement.ForEach at x e body) ≡ expression_faults e ++ (variable_faults (folded x.text) x.place ++ flat (statement_faults (record s { in_for = true })) body)
for_each_is s at x e body =
    ap (step_faults s) (v.statement-ForEach at x e body)
    ∙ ap (λ l. l ++ (variable_faults (folded x.text) x.place ++ todo_faults (in_for s) (todos (map statement_of body)))) (append-nil (expression_faults e))
    ∙ ap (λ l. expression_faults e ++ (variable_faults (folded x.text) x.place ++ l)) (todos_all statement_of (in_for s) body)

pub while_is : (s : Surroundings) (at : Place) (e : Expression) (body : List Statement) → statement_faults s (statement.While at e body) ≡ expression_faults e ++ flat (statement_faults (record s { in_while = true })) body
while_is s at e body =
    ap (step_faults s) (v.statement-While at e body)
    ∙ ap (λ l. expression_faults e ++ l) (todos_all statement_of (record s { in_while = true }) body)

pub ruleset walked = (first_append, append-nil, or_part_is, expression_is, and_part_is, conjunction_is, not_is, plain_is, comparison_part_is, comparison_is, shift_part_is, shift_is, sum_part_is, sum_is, product_part_is, product_is, negative_is, positive_is, value_is, member_is, index_is, arguments_is, pair_is, number_is, text_is, true_is, false_is, invalid_is, variable_is, bracketed_is, array_is, pairs_is, function_is, sub_is, named_function_is, named_sub_is, rest_is, semicolon_is, comma_is, shown_is, assign_is, update_is, count_is, call_is, print_is, return_is, return_value_is, exit_is, simple_is, block_arm_is, block_if_is, block_if_else_is, line_arm_is, line_if_is, line_if_else_is, for_is, for_step_is, for_each_is, while_is)
