-- The form that each part of a tree is.
use Rattle.std.specs.Prelude.{true, false, map, None, Some}
use Rattle.chan_values.specs.Folded.{folded}
use Rattle.brs_grammar.specs.declared.tree.Minus.{Minus}
use Rattle.brs_grammar.specs.declared.tree.Negation.{Negation}
use Rattle.brs_grammar.specs.declared.tree.Postfix.{Postfix}
use Rattle.brs_grammar.specs.declared.tree.Primary.{Primary}
use Rattle.brs_grammar.specs.declared.tree.PrintItem.{PrintItem}
use Rattle.brs_grammar.specs.declared.tree.Simple.{Simple}
use Rattle.brs_grammar.specs.declared.tree.Statement.{Statement}
use Rattle.brs_grammar.specs.declared.tree.AndPart.{AndPart}
use Rattle.brs_grammar.specs.declared.tree.BlockArm.{BlockArm}
use Rattle.brs_grammar.specs.declared.tree.Comparison.{Comparison}
use Rattle.brs_grammar.specs.declared.tree.ComparisonPart.{ComparisonPart}
use Rattle.brs_grammar.specs.declared.tree.Conjunction.{Conjunction}
use Rattle.brs_grammar.specs.declared.tree.Expression.{Expression}
use Rattle.brs_grammar.specs.declared.tree.LineArm.{LineArm}
use Rattle.brs_grammar.specs.declared.tree.OrPart.{OrPart}
use Rattle.brs_grammar.specs.declared.tree.Pair.{Pair}
use Rattle.brs_grammar.specs.declared.tree.Parameter.{Parameter}
use Rattle.brs_grammar.specs.declared.tree.Product.{Product}
use Rattle.brs_grammar.specs.declared.tree.ProductPart.{ProductPart}
use Rattle.brs_grammar.specs.declared.tree.Rest.{Rest}
use Rattle.brs_grammar.specs.declared.tree.Shift.{Shift}
use Rattle.brs_grammar.specs.declared.tree.ShiftPart.{ShiftPart}
use Rattle.brs_grammar.specs.declared.tree.Sum.{Sum}
use Rattle.brs_grammar.specs.declared.tree.SumPart.{SumPart}
use Rattle.brs_grammar.specs.declared.tree.Target.{Target}
use Rattle.brs_grammar.specs.declared.tree.Value.{Value}
use Rattle.brs_grammar.specs.declared.tree.Key.{Key}
use Rattle.brs_grammar.specs.declared.tree.Key.TheVariants as key
use Rattle.brs_grammar.specs.declared.tree.NamedFunction.{NamedFunction}
use Rattle.brs_grammar.specs.declared.tree.NamedFunction.TheVariants as named
use Rattle.brs_grammar.specs.declared.tree.Minus.TheOpen as o
use Rattle.brs_grammar.specs.declared.tree.Minus.TheOpen.{Minus-F, Negation-F, Postfix-F, Primary-F, PrintItem-F, Simple-F, Statement-F, AndPart-F, BlockArm-F, Comparison-F, ComparisonPart-F, Conjunction-F, Expression-F, LineArm-F, OrPart-F, Pair-F, Parameter-F, Product-F, ProductPart-F, Rest-F, Shift-F, ShiftPart-F, Sum-F, SumPart-F, Target-F, Value-F}
use Rattle.brs_grammar.specs.declared.tree.Minus.TheFolds as f
use Rattle.brs_grammar.specs.Form as p
use Rattle.brs_grammar.specs.Form.{Text, Kind, Mark, Head, Form, Node, Forms, none, more, Params, unnamed, required, optional, Doing, Todo, finish, first}
pub use Rattle.brs_grammar.specs.Parts.{Step, Tail, Printed, Operand, Choice, Entry, Formal, Callee, Aim, Aimed, Named, forms, join, maybe, todos, parameter, params, mark, shown, chained, tailed, variable, called, but_last, last_of, aimed_last, aimed, assign_step, update_step, counted, one, or_else, choices, if_step, member, index, arguments, semicolon, comma, value}

-- ---- one layer of a tree, with what its parts are in their place

abbrev pub key_of : Key → p.Key
key_of (key.Word x) = p.WordKey (folded x.text)
key_of (key.Quoted at t) = p.QuotedKey t

abbrev pub Layer : (Type 0 → Type 0 → Type 0 → Type 0 → Type 0 → Type 0 → Type 0 → Type 0 → Type 0 → Type 0 → Type 0 → Type 0 → Type 0 → Type 0 → Type 0 → Type 0 → Type 0 → Type 0 → Type 0 → Type 0 → Type 0 → Type 0 → Type 0 → Type 0 → Type 0 → Type 0 → Type 0) → Type 0
Layer F = F Form Form Tail Form Printed Step Step Operand Choice Form Operand Form Form Choice Operand Entry Formal Form Operand Callee Form Operand Form Operand Aim Form

abbrev pub minus_step : Layer Minus-F → Form
minus_step (o.Negative at x) = Node p.Negate at (more x none)
minus_step (o.Positive x) = x

abbrev pub negation_step : Layer Negation-F → Form
negation_step (o.Not at x) = Node p.Not at (more x none)
negation_step (o.Plain x) = x

abbrev pub postfix_step : Layer Postfix-F → Tail
postfix_step (o.Member at x) = member at (folded x.text)
postfix_step (o.Index at e) = index at e
postfix_step (o.Arguments at es) = arguments at (forms es)

abbrev pub primary_step : Layer Primary-F → Form
primary_step (o.Number at t) = Node (p.Number t) at none
primary_step (o.Text at t) = Node (p.Quoted t) at none
primary_step (o.True at) = Node (p.Truth true) at none
primary_step (o.False at) = Node (p.Truth false) at none
primary_step (o.Invalid at) = Node p.Invalid at none
primary_step (o.Variable x) = variable x.place (folded x.text)
primary_step (o.Bracketed at e) = e
primary_step (o.Array at es) = Node p.Array at (forms es)
primary_step (o.Pairs at xs) = Node (p.Pairs (map (λ x. x.key) xs)) at (forms (map (λ x. x.value) xs))
primary_step (o.AnonymousFunction at r) = Node (p.Anonymous p.FunctionKind r.params r.value r.body) at none
primary_step (o.AnonymousSub at r) = Node (p.Anonymous p.SubKind r.params r.value r.body) at none

abbrev pub print_item_step : Layer PrintItem-F → Printed
print_item_step o.Semicolon = semicolon
print_item_step o.Comma = comma
print_item_step (o.Value e) = value e

abbrev pub simple_step : Layer Simple-F → Step
simple_step (o.Assign t at e) = assign_step t e
simple_step (o.Update t at s e) = update_step t at s e
simple_step (o.Count t at s) = update_step t at (counted s) (one at)
simple_step (o.Call t) = record { doing = p.Drop; place = t.place; operands = more (called t) none }
simple_step (o.Print at xs) = record { doing = p.Print (map mark xs); place = at; operands = shown xs }
simple_step (o.Return at e) = record { doing = p.Return; place = at; operands = maybe e }
simple_step (o.Exit at k) = record { doing = p.Exit k; place = at; operands = none }

abbrev pub statement_step : Layer Statement-F → Step
statement_step (o.Simple s) = s
statement_step (o.BlockIf c cs None) = if_step c cs finish
statement_step (o.BlockIf c cs (Some b)) = if_step c cs (todos b)
statement_step (o.For at x a b s body) = record { doing = p.For x.place (folded x.text) (todos body); place = at; operands = more a (more b (maybe s)) }
statement_step (o.ForEach at x e body) = record { doing = p.ForEach x.place (folded x.text) (todos body); place = at; operands = more e none }
statement_step (o.While at e body) = record { doing = p.While e (todos body); place = at; operands = none }
statement_step (o.LineIf c cs None) = if_step c cs finish
statement_step (o.LineIf c cs (Some b)) = if_step c cs (todos b)

abbrev pub and_part_step : Layer AndPart-F → Operand
and_part_step x = record { head = p.And; place = x.place; right = x.operand }

abbrev pub block_arm_step : Layer BlockArm-F → Choice
block_arm_step x = record { place = x.place; condition = x.condition; body = todos x.block }

abbrev pub comparison_step : Layer Comparison-F → Form
comparison_step x = chained x.first x.more

abbrev pub comparison_part_step : Layer ComparisonPart-F → Operand
comparison_part_step x = record { head = p.Compare x.sign; place = x.place; right = x.operand }

abbrev pub conjunction_step : Layer Conjunction-F → Form
conjunction_step x = chained x.first x.more

abbrev pub expression_step : Layer Expression-F → Form
expression_step x = chained x.first x.more

abbrev pub line_arm_step : Layer LineArm-F → Choice
line_arm_step x = record { place = x.place; condition = x.condition; body = todos x.run }

abbrev pub or_part_step : Layer OrPart-F → Operand
or_part_step x = record { head = p.Or; place = x.place; right = x.operand }

abbrev pub pair_step : Layer Pair-F → Entry
pair_step x = record { key = key_of x.key; value = x.value }

abbrev pub parameter_step : Layer Parameter-F → Formal
parameter_step x = record { place = x.name.place; name = folded x.name.text; default = x.default; kind = x.kind }

abbrev pub product_step : Layer Product-F → Form
product_step x = chained x.first x.more

abbrev pub product_part_step : Layer ProductPart-F → Operand
product_part_step x = record { head = p.Multiply x.sign; place = x.place; right = x.operand }

abbrev pub rest_step : Layer Rest-F → Callee
rest_step x = record { params = params x.parameters; value = x.value; body = todos x.body }

abbrev pub shift_step : Layer Shift-F → Form
shift_step x = chained x.first x.more

abbrev pub shift_part_step : Layer ShiftPart-F → Operand
shift_part_step x = record { head = p.Shift x.sign; place = x.place; right = x.operand }

abbrev pub sum_step : Layer Sum-F → Form
sum_step x = chained x.first x.more

abbrev pub sum_part_step : Layer SumPart-F → Operand
sum_part_step x = record { head = p.Add x.sign; place = x.place; right = x.operand }

abbrev pub target_step : Layer Target-F → Aim
target_step x = record { place = x.name.place; name = folded x.name.text; tails = x.more }

abbrev pub value_step : Layer Value-F → Form
value_step x = tailed x.first x.more

-- ---- the form of each part

unfoldable pub minus_of : Minus → Form
minus_of =
    f.fold-Minus Form Form Tail Form Printed Step Step Operand Choice Form Operand Form Form Choice Operand Entry Formal Form Operand Callee Form Operand Form Operand Aim Form
    minus_step negation_step postfix_step primary_step print_item_step simple_step statement_step and_part_step block_arm_step comparison_step comparison_part_step conjunction_step expression_step line_arm_step or_part_step pair_step parameter_step product_step product_part_step rest_step shift_step shift_part_step sum_step sum_part_step target_step value_step

unfoldable pub negation_of : Negation → Form
negation_of =
    f.fold-Negation Form Form Tail Form Printed Step Step Operand Choice Form Operand Form Form Choice Operand Entry Formal Form Operand Callee Form Operand Form Operand Aim Form
    minus_step negation_step postfix_step primary_step print_item_step simple_step statement_step and_part_step block_arm_step comparison_step comparison_part_step conjunction_step expression_step line_arm_step or_part_step pair_step parameter_step product_step product_part_step rest_step shift_step shift_part_step sum_step sum_part_step target_step value_step

unfoldable pub postfix_of : Postfix → Tail
postfix_of =
    f.fold-Postfix Form Form Tail Form Printed Step Step Operand Choice Form Operand Form Form Choice Operand Entry Formal Form Operand Callee Form Operand Form Operand Aim Form
    minus_step negation_step postfix_step primary_step print_item_step simple_step statement_step and_part_step block_arm_step comparison_step comparison_part_step conjunction_step expression_step line_arm_step or_part_step pair_step parameter_step product_step product_part_step rest_step shift_step shift_part_step sum_step sum_part_step target_step value_step

unfoldable pub primary_of : Primary → Form
primary_of =
    f.fold-Primary Form Form Tail Form Printed Step Step Operand Choice Form Operand Form Form Choice Operand Entry Formal Form Operand Callee Form Operand Form Operand Aim Form
    minus_step negation_step postfix_step primary_step print_item_step simple_step statement_step and_part_step block_arm_step comparison_step comparison_part_step conjunction_step expression_step line_arm_step or_part_step pair_step parameter_step product_step product_part_step rest_step shift_step shift_part_step sum_step sum_part_step target_step value_step

unfoldable pub print_item_of : PrintItem → Printed
print_item_of =
    f.fold-PrintItem Form Form Tail Form Printed Step Step Operand Choice Form Operand Form Form Choice Operand Entry Formal Form Operand Callee Form Operand Form Operand Aim Form
    minus_step negation_step postfix_step primary_step print_item_step simple_step statement_step and_part_step block_arm_step comparison_step comparison_part_step conjunction_step expression_step line_arm_step or_part_step pair_step parameter_step product_step product_part_step rest_step shift_step shift_part_step sum_step sum_part_step target_step value_step

unfoldable pub simple_of : Simple → Step
simple_of =
    f.fold-Simple Form Form Tail Form Printed Step Step Operand Choice Form Operand Form Form Choice Operand Entry Formal Form Operand Callee Form Operand Form Operand Aim Form
    minus_step negation_step postfix_step primary_step print_item_step simple_step statement_step and_part_step block_arm_step comparison_step comparison_part_step conjunction_step expression_step line_arm_step or_part_step pair_step parameter_step product_step product_part_step rest_step shift_step shift_part_step sum_step sum_part_step target_step value_step

unfoldable pub statement_of : Statement → Step
statement_of =
    f.fold-Statement Form Form Tail Form Printed Step Step Operand Choice Form Operand Form Form Choice Operand Entry Formal Form Operand Callee Form Operand Form Operand Aim Form
    minus_step negation_step postfix_step primary_step print_item_step simple_step statement_step and_part_step block_arm_step comparison_step comparison_part_step conjunction_step expression_step line_arm_step or_part_step pair_step parameter_step product_step product_part_step rest_step shift_step shift_part_step sum_step sum_part_step target_step value_step

unfoldable pub and_part_of : AndPart → Operand
and_part_of =
    f.fold-AndPart Form Form Tail Form Printed Step Step Operand Choice Form Operand Form Form Choice Operand Entry Formal Form Operand Callee Form Operand Form Operand Aim Form
    minus_step negation_step postfix_step primary_step print_item_step simple_step statement_step and_part_step block_arm_step comparison_step comparison_part_step conjunction_step expression_step line_arm_step or_part_step pair_step parameter_step product_step product_part_step rest_step shift_step shift_part_step sum_step sum_part_step target_step value_step

unfoldable pub block_arm_of : BlockArm → Choice
block_arm_of =
    f.fold-BlockArm Form Form Tail Form Printed Step Step Operand Choice Form Operand Form Form Choice Operand Entry Formal Form Operand Callee Form Operand Form Operand Aim Form
    minus_step negation_step postfix_step primary_step print_item_step simple_step statement_step and_part_step block_arm_step comparison_step comparison_part_step conjunction_step expression_step line_arm_step or_part_step pair_step parameter_step product_step product_part_step rest_step shift_step shift_part_step sum_step sum_part_step target_step value_step

unfoldable pub comparison_of : Comparison → Form
comparison_of =
    f.fold-Comparison Form Form Tail Form Printed Step Step Operand Choice Form Operand Form Form Choice Operand Entry Formal Form Operand Callee Form Operand Form Operand Aim Form
    minus_step negation_step postfix_step primary_step print_item_step simple_step statement_step and_part_step block_arm_step comparison_step comparison_part_step conjunction_step expression_step line_arm_step or_part_step pair_step parameter_step product_step product_part_step rest_step shift_step shift_part_step sum_step sum_part_step target_step value_step

unfoldable pub comparison_part_of : ComparisonPart → Operand
comparison_part_of =
    f.fold-ComparisonPart Form Form Tail Form Printed Step Step Operand Choice Form Operand Form Form Choice Operand Entry Formal Form Operand Callee Form Operand Form Operand Aim Form
    minus_step negation_step postfix_step primary_step print_item_step simple_step statement_step and_part_step block_arm_step comparison_step comparison_part_step conjunction_step expression_step line_arm_step or_part_step pair_step parameter_step product_step product_part_step rest_step shift_step shift_part_step sum_step sum_part_step target_step value_step

unfoldable pub conjunction_of : Conjunction → Form
conjunction_of =
    f.fold-Conjunction Form Form Tail Form Printed Step Step Operand Choice Form Operand Form Form Choice Operand Entry Formal Form Operand Callee Form Operand Form Operand Aim Form
    minus_step negation_step postfix_step primary_step print_item_step simple_step statement_step and_part_step block_arm_step comparison_step comparison_part_step conjunction_step expression_step line_arm_step or_part_step pair_step parameter_step product_step product_part_step rest_step shift_step shift_part_step sum_step sum_part_step target_step value_step

unfoldable pub expression_of : Expression → Form
expression_of =
    f.fold-Expression Form Form Tail Form Printed Step Step Operand Choice Form Operand Form Form Choice Operand Entry Formal Form Operand Callee Form Operand Form Operand Aim Form
    minus_step negation_step postfix_step primary_step print_item_step simple_step statement_step and_part_step block_arm_step comparison_step comparison_part_step conjunction_step expression_step line_arm_step or_part_step pair_step parameter_step product_step product_part_step rest_step shift_step shift_part_step sum_step sum_part_step target_step value_step

unfoldable pub line_arm_of : LineArm → Choice
line_arm_of =
    f.fold-LineArm Form Form Tail Form Printed Step Step Operand Choice Form Operand Form Form Choice Operand Entry Formal Form Operand Callee Form Operand Form Operand Aim Form
    minus_step negation_step postfix_step primary_step print_item_step simple_step statement_step and_part_step block_arm_step comparison_step comparison_part_step conjunction_step expression_step line_arm_step or_part_step pair_step parameter_step product_step product_part_step rest_step shift_step shift_part_step sum_step sum_part_step target_step value_step

unfoldable pub or_part_of : OrPart → Operand
or_part_of =
    f.fold-OrPart Form Form Tail Form Printed Step Step Operand Choice Form Operand Form Form Choice Operand Entry Formal Form Operand Callee Form Operand Form Operand Aim Form
    minus_step negation_step postfix_step primary_step print_item_step simple_step statement_step and_part_step block_arm_step comparison_step comparison_part_step conjunction_step expression_step line_arm_step or_part_step pair_step parameter_step product_step product_part_step rest_step shift_step shift_part_step sum_step sum_part_step target_step value_step

unfoldable pub pair_of : Pair → Entry
pair_of =
    f.fold-Pair Form Form Tail Form Printed Step Step Operand Choice Form Operand Form Form Choice Operand Entry Formal Form Operand Callee Form Operand Form Operand Aim Form
    minus_step negation_step postfix_step primary_step print_item_step simple_step statement_step and_part_step block_arm_step comparison_step comparison_part_step conjunction_step expression_step line_arm_step or_part_step pair_step parameter_step product_step product_part_step rest_step shift_step shift_part_step sum_step sum_part_step target_step value_step

unfoldable pub parameter_of : Parameter → Formal
parameter_of =
    f.fold-Parameter Form Form Tail Form Printed Step Step Operand Choice Form Operand Form Form Choice Operand Entry Formal Form Operand Callee Form Operand Form Operand Aim Form
    minus_step negation_step postfix_step primary_step print_item_step simple_step statement_step and_part_step block_arm_step comparison_step comparison_part_step conjunction_step expression_step line_arm_step or_part_step pair_step parameter_step product_step product_part_step rest_step shift_step shift_part_step sum_step sum_part_step target_step value_step

unfoldable pub product_of : Product → Form
product_of =
    f.fold-Product Form Form Tail Form Printed Step Step Operand Choice Form Operand Form Form Choice Operand Entry Formal Form Operand Callee Form Operand Form Operand Aim Form
    minus_step negation_step postfix_step primary_step print_item_step simple_step statement_step and_part_step block_arm_step comparison_step comparison_part_step conjunction_step expression_step line_arm_step or_part_step pair_step parameter_step product_step product_part_step rest_step shift_step shift_part_step sum_step sum_part_step target_step value_step

unfoldable pub product_part_of : ProductPart → Operand
product_part_of =
    f.fold-ProductPart Form Form Tail Form Printed Step Step Operand Choice Form Operand Form Form Choice Operand Entry Formal Form Operand Callee Form Operand Form Operand Aim Form
    minus_step negation_step postfix_step primary_step print_item_step simple_step statement_step and_part_step block_arm_step comparison_step comparison_part_step conjunction_step expression_step line_arm_step or_part_step pair_step parameter_step product_step product_part_step rest_step shift_step shift_part_step sum_step sum_part_step target_step value_step

unfoldable pub rest_of : Rest → Callee
rest_of =
    f.fold-Rest Form Form Tail Form Printed Step Step Operand Choice Form Operand Form Form Choice Operand Entry Formal Form Operand Callee Form Operand Form Operand Aim Form
    minus_step negation_step postfix_step primary_step print_item_step simple_step statement_step and_part_step block_arm_step comparison_step comparison_part_step conjunction_step expression_step line_arm_step or_part_step pair_step parameter_step product_step product_part_step rest_step shift_step shift_part_step sum_step sum_part_step target_step value_step

unfoldable pub shift_of : Shift → Form
shift_of =
    f.fold-Shift Form Form Tail Form Printed Step Step Operand Choice Form Operand Form Form Choice Operand Entry Formal Form Operand Callee Form Operand Form Operand Aim Form
    minus_step negation_step postfix_step primary_step print_item_step simple_step statement_step and_part_step block_arm_step comparison_step comparison_part_step conjunction_step expression_step line_arm_step or_part_step pair_step parameter_step product_step product_part_step rest_step shift_step shift_part_step sum_step sum_part_step target_step value_step

unfoldable pub shift_part_of : ShiftPart → Operand
shift_part_of =
    f.fold-ShiftPart Form Form Tail Form Printed Step Step Operand Choice Form Operand Form Form Choice Operand Entry Formal Form Operand Callee Form Operand Form Operand Aim Form
    minus_step negation_step postfix_step primary_step print_item_step simple_step statement_step and_part_step block_arm_step comparison_step comparison_part_step conjunction_step expression_step line_arm_step or_part_step pair_step parameter_step product_step product_part_step rest_step shift_step shift_part_step sum_step sum_part_step target_step value_step

unfoldable pub sum_of : Sum → Form
sum_of =
    f.fold-Sum Form Form Tail Form Printed Step Step Operand Choice Form Operand Form Form Choice Operand Entry Formal Form Operand Callee Form Operand Form Operand Aim Form
    minus_step negation_step postfix_step primary_step print_item_step simple_step statement_step and_part_step block_arm_step comparison_step comparison_part_step conjunction_step expression_step line_arm_step or_part_step pair_step parameter_step product_step product_part_step rest_step shift_step shift_part_step sum_step sum_part_step target_step value_step

unfoldable pub sum_part_of : SumPart → Operand
sum_part_of =
    f.fold-SumPart Form Form Tail Form Printed Step Step Operand Choice Form Operand Form Form Choice Operand Entry Formal Form Operand Callee Form Operand Form Operand Aim Form
    minus_step negation_step postfix_step primary_step print_item_step simple_step statement_step and_part_step block_arm_step comparison_step comparison_part_step conjunction_step expression_step line_arm_step or_part_step pair_step parameter_step product_step product_part_step rest_step shift_step shift_part_step sum_step sum_part_step target_step value_step

unfoldable pub target_of : Target → Aim
target_of =
    f.fold-Target Form Form Tail Form Printed Step Step Operand Choice Form Operand Form Form Choice Operand Entry Formal Form Operand Callee Form Operand Form Operand Aim Form
    minus_step negation_step postfix_step primary_step print_item_step simple_step statement_step and_part_step block_arm_step comparison_step comparison_part_step conjunction_step expression_step line_arm_step or_part_step pair_step parameter_step product_step product_part_step rest_step shift_step shift_part_step sum_step sum_part_step target_step value_step

unfoldable pub value_of : Value → Form
value_of =
    f.fold-Value Form Form Tail Form Printed Step Step Operand Choice Form Operand Form Form Choice Operand Entry Formal Form Operand Callee Form Operand Form Operand Aim Form
    minus_step negation_step postfix_step primary_step print_item_step simple_step statement_step and_part_step block_arm_step comparison_step comparison_part_step conjunction_step expression_step line_arm_step or_part_step pair_step parameter_step product_step product_part_step rest_step shift_step shift_part_step sum_step sum_part_step target_step value_step

abbrev pub named_of : NamedFunction → Named
named_of (named.Function at x r) = record { kind = p.FunctionKind; place = at; name_place = x.place; name = folded x.text; callee = rest_of r }
named_of (named.Sub at x r) = record { kind = p.SubKind; place = at; name_place = x.place; name = folded x.text; callee = rest_of r }
