-- The static faults of each part of a tree, by its form.
use Rattle.std.specs.Prelude.{Bool, List, [], ◌∷◌, ◌++◌, map, Option, None, Some}
use Rattle.chan_values.specs.Folded.{folded}
use Rattle.brs_tokens.specs.declared.place.Place.{Place}
use Rattle.brs_grammar.specs.declared.tree.Minus.{Minus}
use Rattle.brs_grammar.specs.declared.tree.Negation.{Negation}
use Rattle.brs_grammar.specs.declared.tree.Postfix.{Postfix}
use Rattle.brs_grammar.specs.declared.tree.Primary.{Primary}
use Rattle.brs_grammar.specs.declared.tree.PrintItem.{PrintItem}
use Rattle.brs_grammar.specs.declared.tree.Simple.{Simple}
use Rattle.brs_grammar.specs.declared.tree.Statement.{Statement}
use Rattle.brs_grammar.specs.declared.tree.AndPart.{AndPart}
use Rattle.brs_grammar.specs.declared.tree.BlockArm.{BlockArm}
use Rattle.brs_grammar.specs.declared.tree.Comparison.{Comparison}
use Rattle.brs_grammar.specs.declared.tree.ComparisonPart.{ComparisonPart}
use Rattle.brs_grammar.specs.declared.tree.Conjunction.{Conjunction}
use Rattle.brs_grammar.specs.declared.tree.Expression.{Expression}
use Rattle.brs_grammar.specs.declared.tree.LineArm.{LineArm}
use Rattle.brs_grammar.specs.declared.tree.NamedFunction.{NamedFunction}
use Rattle.brs_grammar.specs.declared.tree.OrPart.{OrPart}
use Rattle.brs_grammar.specs.declared.tree.Pair.{Pair}
use Rattle.brs_grammar.specs.declared.tree.Parameter.{Parameter, out-Parameter}
use Rattle.brs_grammar.specs.declared.tree.Product.{Product}
use Rattle.brs_grammar.specs.declared.tree.ProductPart.{ProductPart}
use Rattle.brs_grammar.specs.declared.tree.Rest.{Rest}
use Rattle.brs_grammar.specs.declared.tree.Shift.{Shift}
use Rattle.brs_grammar.specs.declared.tree.ShiftPart.{ShiftPart}
use Rattle.brs_grammar.specs.declared.tree.Sum.{Sum}
use Rattle.brs_grammar.specs.declared.tree.SumPart.{SumPart}
use Rattle.brs_grammar.specs.declared.tree.Target.{Target, out-Target}
use Rattle.brs_grammar.specs.declared.tree.Value.{Value}
use Rattle.brs_grammar.specs.Form.{Text}
use Rattle.brs_grammar.specs.View.{Step, Tail, Printed, Operand, Choice, Callee, member, index, arguments, semicolon, comma, value, minus_of, negation_of, postfix_of, primary_of, print_item_of, simple_of, statement_of, and_part_of, block_arm_of, comparison_of, comparison_part_of, conjunction_of, expression_of, line_arm_of, or_part_of, pair_of, product_of, product_part_of, rest_of, shift_of, shift_part_of, sum_of, sum_part_of, value_of, named_of}
use Rattle.static_faults.specs.declared.fault.StaticFault.{StaticFault}
use Rattle.static_faults.specs.declared.fault.Surroundings.{Surroundings}
use Rattle.static_faults.specs.Table.{parameter_faults, variable_faults, gives_value}
use Rattle.static_faults.specs.Faults.{inside, form_faults, forms_faults, head_faults, params_faults, doing_faults, todo_faults}

-- of each, one after another
abbrev pub flat : {A : Type 0} → (A → List StaticFault) → List A → List StaticFault
flat g [] = []
flat g (x ∷ xs) = g x ++ flat g xs

-- ---- what the parts of a tree are

abbrev pub operand_faults : Operand → List StaticFault
operand_faults y = form_faults y.right ++ head_faults y.head

abbrev pub tail_faults : Tail → List StaticFault
tail_faults (member at k) = []
tail_faults (index at e) = form_faults e
tail_faults (arguments at es) = forms_faults es

abbrev pub printed_faults : Printed → List StaticFault
printed_faults semicolon = []
printed_faults comma = []
printed_faults (value e) = form_faults e

abbrev pub step_faults : Surroundings → Step → List StaticFault
step_faults s x = forms_faults x.operands ++ doing_faults s x.doing x.place x.operands

abbrev pub choice_faults : Surroundings → Choice → List StaticFault
choice_faults s c = form_faults c.condition ++ todo_faults s c.body

abbrev pub callee_faults : Bool → Callee → List StaticFault
callee_faults gives c = params_faults [] c.params ++ todo_faults (inside gives) c.body

-- ---- expressions

abbrev pub expression_faults : Expression → List StaticFault
expression_faults e = form_faults (expression_of e)

abbrev pub or_part_faults : OrPart → List StaticFault
or_part_faults x = operand_faults (or_part_of x)

abbrev pub conjunction_faults : Conjunction → List StaticFault
conjunction_faults e = form_faults (conjunction_of e)

abbrev pub and_part_faults : AndPart → List StaticFault
and_part_faults x = operand_faults (and_part_of x)

abbrev pub negation_faults : Negation → List StaticFault
negation_faults e = form_faults (negation_of e)

abbrev pub comparison_faults : Comparison → List StaticFault
comparison_faults e = form_faults (comparison_of e)

abbrev pub comparison_part_faults : ComparisonPart → List StaticFault
comparison_part_faults x = operand_faults (comparison_part_of x)

abbrev pub shift_faults : Shift → List StaticFault
shift_faults e = form_faults (shift_of e)

abbrev pub shift_part_faults : ShiftPart → List StaticFault
shift_part_faults x = operand_faults (shift_part_of x)

abbrev pub sum_faults : Sum → List StaticFault
sum_faults e = form_faults (sum_of e)

abbrev pub sum_part_faults : SumPart → List StaticFault
sum_part_faults x = operand_faults (sum_part_of x)

abbrev pub product_faults : Product → List StaticFault
product_faults e = form_faults (product_of e)

abbrev pub product_part_faults : ProductPart → List StaticFault
product_part_faults x = operand_faults (product_part_of x)

abbrev pub minus_faults : Minus → List StaticFault
minus_faults e = form_faults (minus_of e)

abbrev pub value_faults : Value → List StaticFault
value_faults e = form_faults (value_of e)

abbrev pub postfix_faults : Postfix → List StaticFault
postfix_faults t = tail_faults (postfix_of t)

abbrev pub primary_faults : Primary → List StaticFault
primary_faults e = form_faults (primary_of e)

abbrev pub pair_faults : Pair → List StaticFault
pair_faults x = form_faults (pair_of x).value

-- ---- statements

abbrev pub print_item_faults : PrintItem → List StaticFault
print_item_faults x = printed_faults (print_item_of x)

-- of what is set, where nothing stands behind the name
abbrev pub plain_faults : {A : Type 0} → Text → Place → List A → List StaticFault
plain_faults x at [] = variable_faults x at
plain_faults x at (y ∷ ys) = []

abbrev pub target_faults : Target → List StaticFault
target_faults t = plain_faults (folded (out-Target t).name.text) (out-Target t).name.place (out-Target t).more

abbrev pub simple_faults : Surroundings → Simple → List StaticFault
simple_faults s x = step_faults s (simple_of x)

abbrev pub statement_faults : Surroundings → Statement → List StaticFault
statement_faults s x = step_faults s (statement_of x)

abbrev pub block_arm_faults : Surroundings → BlockArm → List StaticFault
block_arm_faults s a = choice_faults s (block_arm_of a)

abbrev pub line_arm_faults : Surroundings → LineArm → List StaticFault
line_arm_faults s a = choice_faults s (line_arm_of a)

-- ---- functions

abbrev pub rest_faults : Bool → Rest → List StaticFault
rest_faults gives r = callee_faults gives (rest_of r)

abbrev pub default_faults : Option Expression → List StaticFault
default_faults None = []
default_faults (Some e) = expression_faults e

abbrev pub name_of : Parameter → Text
name_of x = folded (out-Parameter x).name.text

abbrev pub names : List Parameter → List Text
names xs = map name_of xs

-- a parameter with those before it in its list
abbrev pub each_parameter_faults : List Parameter → Parameter → List StaticFault
each_parameter_faults before x = parameter_faults (names before) (name_of x) (out-Parameter x).name.place ++ default_faults (out-Parameter x).default

-- of the parameters behind these
abbrev pub all_parameter_faults : List Parameter → List Parameter → List StaticFault
all_parameter_faults before [] = []
all_parameter_faults before (x ∷ xs) = each_parameter_faults before x ++ all_parameter_faults (before ++ x ∷ []) xs

abbrev pub function_name : NamedFunction → Text
function_name f = (named_of f).name

abbrev pub function_names : List NamedFunction → List Text
function_names fs = map function_name fs

-- of the parameters and the body of a named function
abbrev pub body_faults : NamedFunction → List StaticFault
body_faults f = callee_faults (gives_value (named_of f).kind (named_of f).callee.value) (named_of f).callee
