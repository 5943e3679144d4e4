-- Worked trees, which the checker computes: one of each form of statement.
use Rattle.std.proofs.Common.{ℕ, List, [], ◌∷◌, None, Some, refl}
use lib.Chars.{codes}
use denote.Hole.Carrier.{out}
use Rattle.brs_tokens.specs.Tok.{Tok}
use Rattle.brs_tokens.specs.declared.token.TokenKind.{TokenKind}
use Rattle.brs_tokens.specs.declared.token.TokenKind.TheVariants as kind
use Rattle.grammar_rules.specs.Words.{same_word, word_of, word_spelled, is_alike}
use Rattle.grammar_rules.specs.Reading as R
use Rattle.brs_grammar.specs.declared.tree.Minus.TheViews.{out-Postfix}
use Rattle.brs_grammar.specs.ReadLeaves as L
use Rattle.brs_grammar.specs.ReadExpressions as E
use Rattle.brs_grammar.specs.ReadStatementWords as W
use Rattle.brs_grammar.specs.ReadStatements as T
use Rattle.brs_grammar.specs.ReadFunctions as F
use Rattle.brs_tokens.specs.declared.place.Place.{Place}
use Rattle.brs_grammar.specs.declared.tree.BlockArm.{roll-BlockArm}
use Rattle.brs_grammar.specs.declared.tree.Comparison.{roll-Comparison}
use Rattle.brs_grammar.specs.declared.tree.Conjunction.{roll-Conjunction}
use Rattle.brs_grammar.specs.declared.tree.CountSign.TheVariants as count
use Rattle.brs_grammar.specs.declared.tree.Expression.{Expression, roll-Expression}
use Rattle.brs_grammar.specs.declared.tree.LineArm.{roll-LineArm}
use Rattle.brs_grammar.specs.declared.tree.LoopKind.TheVariants as loop
use Rattle.brs_grammar.specs.declared.tree.Minus.TheVariants as minus
use Rattle.brs_grammar.specs.declared.tree.Name.{Name}
use Rattle.brs_grammar.specs.declared.tree.NamedFunction.{NamedFunction}
use Rattle.brs_grammar.specs.declared.tree.NamedFunction.TheVariants as named
use Rattle.brs_grammar.specs.declared.tree.Negation.TheVariants as negation
use Rattle.brs_grammar.specs.declared.tree.Postfix.{Postfix}
use Rattle.brs_grammar.specs.declared.tree.Postfix.TheVariants as postfix
use Rattle.brs_grammar.specs.declared.tree.Primary.{Primary}
use Rattle.brs_grammar.specs.declared.tree.Primary.TheVariants as primary
use Rattle.brs_grammar.specs.declared.tree.PrintItem.TheVariants as printed
use Rattle.brs_grammar.specs.declared.tree.Product.{roll-Product}
use Rattle.brs_grammar.specs.declared.tree.Rest.{roll-Rest}
use Rattle.brs_grammar.specs.declared.tree.Shift.{roll-Shift}
use Rattle.brs_grammar.specs.declared.tree.Simple.{Simple}
use Rattle.brs_grammar.specs.declared.tree.Simple.TheVariants as simple
use Rattle.brs_grammar.specs.declared.tree.Statement.{Statement}
use Rattle.brs_grammar.specs.declared.tree.Statement.TheVariants as statement
use Rattle.brs_grammar.specs.declared.tree.Sum.{roll-Sum}
use Rattle.brs_grammar.specs.declared.tree.Target.{Target, roll-Target}
use Rattle.brs_grammar.specs.declared.tree.UpdateSign.TheVariants as update
use Rattle.brs_grammar.specs.declared.tree.Value.{roll-Value}
use Rattle.brs_grammar.specs.Grammar.{IsFile}
use Rattle.brs_grammar.proofs.Whole.{file_ok}

abbrev token : TokenKind → List ℕ → ℕ → ℕ → Tok
token k slice line column = record { kind = k; slice = slice; line = line; column = column }

abbrev at : ℕ → ℕ → Place
at line column = record { line = line; column = column }

abbrev name : List ℕ → ℕ → ℕ → Name
name text line column = record { place = at line column; text = text }

abbrev value : Primary → Expression
value x =
    let product = roll-Product (record { first = minus.Positive (roll-Value (record { first = x; more = [] })); more = [] }) in
    let shift = roll-Shift (record { first = roll-Sum (record { first = product; more = [] }); more = [] }) in
    let plain = negation.Plain (roll-Comparison (record { first = shift; more = [] })) in
    roll-Expression (record { first = roll-Conjunction (record { first = plain; more = [] }); more = [] })

abbrev target : Name → List Postfix → Target
target x more = roll-Target (record { name = x; more = more })

-- a call without arguments as a statement, where its bracket follows the name
abbrev call : Name → Place → Simple
call x there = simple.Call (target x (postfix.Arguments there [] ∷ []))

-- `sub f()` with these statements
abbrev body_of : List Statement → List NamedFunction
body_of xs = named.Sub (at 1 1) (name (codes "f") 1 5) (roll-Rest (record { parameters = []; value = None; body = xs })) ∷ []

-- x = 1
abbrev pub assign_statement_tokens : List Tok
assign_statement_tokens =
    token kind.Keyword (codes "sub") 1 1
    ∷ token kind.Name (codes "f") 1 5
    ∷ token kind.Sign (codes "(") 1 6
    ∷ token kind.Sign (codes ")") 1 7
    ∷ token kind.Newline (codes "\n") 1 8
    ∷ token kind.Name (codes "x") 2 1
    ∷ token kind.Sign (codes "=") 2 3
    ∷ token kind.Number (codes "1") 2 5
    ∷ token kind.Newline (codes "\n") 2 6
    ∷ token kind.Keyword (codes "end") 3 1
    ∷ token kind.Keyword (codes "sub") 3 5
    ∷ []

pub assign_statement : IsFile assign_statement_tokens (body_of (statement.Simple (simple.Assign (target (name (codes "x") 2 1) []) (at 2 3) (value (primary.Number (at 2 5) (codes "1")))) ∷ []))
unfolding same_word word_of word_spelled is_alike out-Postfix out L.blank L.newlines L.comma_gap L.newline_gap L.gap L.end_function L.end_sub L.number L.text L.true_ L.false_ L.invalid L.variable L.word_key L.quoted_key L.a_key L.member E.bracketed E.array E.pairs E.anonymous_function E.anonymous_sub E.a_primary E.index E.arguments E.a_postfix E.postfixes E.a_value E.negative E.positive E.a_minus E.product_part E.product_parts E.a_product E.sum_part E.sum_parts E.a_sum E.shift_part E.shift_parts E.a_shift E.comparison_part E.comparison_parts E.a_comparison E.not_ E.plain_negation E.a_negation E.and_part E.and_parts E.a_conjunction E.or_part E.or_parts E.an_expression E.next_argument E.next_arguments E.some_arguments E.all_arguments E.an_item E.next_items E.some_items E.all_items E.a_pair E.next_pair E.next_pairs E.some_pairs E.all_pairs W.as_type W.separator W.end_for W.end_while W.end_if W.then_ W.exit_for W.exit_while W.exit_two W.exit_for_word W.exit_while_word W.exit W.semicolon W.comma W.print_separator W.more_separators W.print_separators T.a_target T.assign T.update_ T.count_ T.targeted T.print_value T.next_values T.print_values T.print_items T.print_ T.return_ T.a_simple T.next_simple T.next_simples T.run T.next_line_arm T.else_if_line_arm T.line_ending T.next_block_arm T.else_if_block_arm T.block_else T.block_ending T.block_if_rest T.line_if_rest T.block_if_line T.line_if_line T.if_line T.step T.for_body T.for_rest T.each_rest T.for_ T.while_ T.simple_statement T.other_plain T.other_line T.empty_line T.line T.block F.default_value F.a_parameter F.next_parameter F.next_parameters F.some_parameters F.all_parameters F.a_rest F.function F.sub F.named_function F.named_line F.file_ending F.functions F.inside F.file R.one R.many_from R.many R.trail_from R.trail R.ended_from R.ended R.end R.finish R.whole
assign_statement = file_ok assign_statement_tokens [] (body_of (statement.Simple (simple.Assign (target (name (codes "x") 2 1) []) (at 2 3) (value (primary.Number (at 2 5) (codes "1")))) ∷ [])) refl

-- x.k += 1
abbrev pub update_statement_tokens : List Tok
update_statement_tokens =
    token kind.Keyword (codes "sub") 1 1
    ∷ token kind.Name (codes "f") 1 5
    ∷ token kind.Sign (codes "(") 1 6
    ∷ token kind.Sign (codes ")") 1 7
    ∷ token kind.Newline (codes "\n") 1 8
    ∷ token kind.Name (codes "x") 2 1
    ∷ token kind.Sign (codes ".") 2 2
    ∷ token kind.Name (codes "k") 2 3
    ∷ token kind.Sign (codes "+=") 2 5
    ∷ token kind.Number (codes "1") 2 8
    ∷ token kind.Newline (codes "\n") 2 9
    ∷ token kind.Keyword (codes "end") 3 1
    ∷ token kind.Keyword (codes "sub") 3 5
    ∷ []

pub update_statement : IsFile update_statement_tokens (body_of (statement.Simple (simple.Update (target (name (codes "x") 2 1) (postfix.Member (at 2 2) (name (codes "k") 2 3) ∷ [])) (at 2 5) update.Plus (value (primary.Number (at 2 8) (codes "1")))) ∷ []))
unfolding same_word word_of word_spelled is_alike out-Postfix out L.blank L.newlines L.comma_gap L.newline_gap L.gap L.end_function L.end_sub L.number L.text L.true_ L.false_ L.invalid L.variable L.word_key L.quoted_key L.a_key L.member E.bracketed E.array E.pairs E.anonymous_function E.anonymous_sub E.a_primary E.index E.arguments E.a_postfix E.postfixes E.a_value E.negative E.positive E.a_minus E.product_part E.product_parts E.a_product E.sum_part E.sum_parts E.a_sum E.shift_part E.shift_parts E.a_shift E.comparison_part E.comparison_parts E.a_comparison E.not_ E.plain_negation E.a_negation E.and_part E.and_parts E.a_conjunction E.or_part E.or_parts E.an_expression E.next_argument E.next_arguments E.some_arguments E.all_arguments E.an_item E.next_items E.some_items E.all_items E.a_pair E.next_pair E.next_pairs E.some_pairs E.all_pairs W.as_type W.separator W.end_for W.end_while W.end_if W.then_ W.exit_for W.exit_while W.exit_two W.exit_for_word W.exit_while_word W.exit W.semicolon W.comma W.print_separator W.more_separators W.print_separators T.a_target T.assign T.update_ T.count_ T.targeted T.print_value T.next_values T.print_values T.print_items T.print_ T.return_ T.a_simple T.next_simple T.next_simples T.run T.next_line_arm T.else_if_line_arm T.line_ending T.next_block_arm T.else_if_block_arm T.block_else T.block_ending T.block_if_rest T.line_if_rest T.block_if_line T.line_if_line T.if_line T.step T.for_body T.for_rest T.each_rest T.for_ T.while_ T.simple_statement T.other_plain T.other_line T.empty_line T.line T.block F.default_value F.a_parameter F.next_parameter F.next_parameters F.some_parameters F.all_parameters F.a_rest F.function F.sub F.named_function F.named_line F.file_ending F.functions F.inside F.file R.one R.many_from R.many R.trail_from R.trail R.ended_from R.ended R.end R.finish R.whole
update_statement = file_ok update_statement_tokens [] (body_of (statement.Simple (simple.Update (target (name (codes "x") 2 1) (postfix.Member (at 2 2) (name (codes "k") 2 3) ∷ [])) (at 2 5) update.Plus (value (primary.Number (at 2 8) (codes "1")))) ∷ [])) refl

-- x[1]--
abbrev pub count_statement_tokens : List Tok
count_statement_tokens =
    token kind.Keyword (codes "sub") 1 1
    ∷ token kind.Name (codes "f") 1 5
    ∷ token kind.Sign (codes "(") 1 6
    ∷ token kind.Sign (codes ")") 1 7
    ∷ token kind.Newline (codes "\n") 1 8
    ∷ token kind.Name (codes "x") 2 1
    ∷ token kind.Sign (codes "[") 2 2
    ∷ token kind.Number (codes "1") 2 3
    ∷ token kind.Sign (codes "]") 2 4
    ∷ token kind.Sign (codes "--") 2 5
    ∷ token kind.Newline (codes "\n") 2 7
    ∷ token kind.Keyword (codes "end") 3 1
    ∷ token kind.Keyword (codes "sub") 3 5
    ∷ []

pub count_statement : IsFile count_statement_tokens (body_of (statement.Simple (simple.Count (target (name (codes "x") 2 1) (postfix.Index (at 2 2) (value (primary.Number (at 2 3) (codes "1"))) ∷ [])) (at 2 5) count.Decrement) ∷ []))
unfolding same_word word_of word_spelled is_alike out-Postfix out L.blank L.newlines L.comma_gap L.newline_gap L.gap L.end_function L.end_sub L.number L.text L.true_ L.false_ L.invalid L.variable L.word_key L.quoted_key L.a_key L.member E.bracketed E.array E.pairs E.anonymous_function E.anonymous_sub E.a_primary E.index E.arguments E.a_postfix E.postfixes E.a_value E.negative E.positive E.a_minus E.product_part E.product_parts E.a_product E.sum_part E.sum_parts E.a_sum E.shift_part E.shift_parts E.a_shift E.comparison_part E.comparison_parts E.a_comparison E.not_ E.plain_negation E.a_negation E.and_part E.and_parts E.a_conjunction E.or_part E.or_parts E.an_expression E.next_argument E.next_arguments E.some_arguments E.all_arguments E.an_item E.next_items E.some_items E.all_items E.a_pair E.next_pair E.next_pairs E.some_pairs E.all_pairs W.as_type W.separator W.end_for W.end_while W.end_if W.then_ W.exit_for W.exit_while W.exit_two W.exit_for_word W.exit_while_word W.exit W.semicolon W.comma W.print_separator W.more_separators W.print_separators T.a_target T.assign T.update_ T.count_ T.targeted T.print_value T.next_values T.print_values T.print_items T.print_ T.return_ T.a_simple T.next_simple T.next_simples T.run T.next_line_arm T.else_if_line_arm T.line_ending T.next_block_arm T.else_if_block_arm T.block_else T.block_ending T.block_if_rest T.line_if_rest T.block_if_line T.line_if_line T.if_line T.step T.for_body T.for_rest T.each_rest T.for_ T.while_ T.simple_statement T.other_plain T.other_line T.empty_line T.line T.block F.default_value F.a_parameter F.next_parameter F.next_parameters F.some_parameters F.all_parameters F.a_rest F.function F.sub F.named_function F.named_line F.file_ending F.functions F.inside F.file R.one R.many_from R.many R.trail_from R.trail R.ended_from R.ended R.end R.finish R.whole
count_statement = file_ok count_statement_tokens [] (body_of (statement.Simple (simple.Count (target (name (codes "x") 2 1) (postfix.Index (at 2 2) (value (primary.Number (at 2 3) (codes "1"))) ∷ [])) (at 2 5) count.Decrement) ∷ [])) refl

-- g(1, y)
abbrev pub call_statement_tokens : List Tok
call_statement_tokens =
    token kind.Keyword (codes "sub") 1 1
    ∷ token kind.Name (codes "f") 1 5
    ∷ token kind.Sign (codes "(") 1 6
    ∷ token kind.Sign (codes ")") 1 7
    ∷ token kind.Newline (codes "\n") 1 8
    ∷ token kind.Name (codes "g") 2 1
    ∷ token kind.Sign (codes "(") 2 2
    ∷ token kind.Number (codes "1") 2 3
    ∷ token kind.Sign (codes ",") 2 4
    ∷ token kind.Name (codes "y") 2 6
    ∷ token kind.Sign (codes ")") 2 7
    ∷ token kind.Newline (codes "\n") 2 8
    ∷ token kind.Keyword (codes "end") 3 1
    ∷ token kind.Keyword (codes "sub") 3 5
    ∷ []

pub call_statement : IsFile call_statement_tokens (body_of (statement.Simple (simple.Call (target (name (codes "g") 2 1) (postfix.Arguments (at 2 2) ((value (primary.Number (at 2 3) (codes "1"))) ∷ (value (primary.Variable (name (codes "y") 2 6))) ∷ []) ∷ []))) ∷ []))
unfolding same_word word_of word_spelled is_alike out-Postfix out L.blank L.newlines L.comma_gap L.newline_gap L.gap L.end_function L.end_sub L.number L.text L.true_ L.false_ L.invalid L.variable L.word_key L.quoted_key L.a_key L.member E.bracketed E.array E.pairs E.anonymous_function E.anonymous_sub E.a_primary E.index E.arguments E.a_postfix E.postfixes E.a_value E.negative E.positive E.a_minus E.product_part E.product_parts E.a_product E.sum_part E.sum_parts E.a_sum E.shift_part E.shift_parts E.a_shift E.comparison_part E.comparison_parts E.a_comparison E.not_ E.plain_negation E.a_negation E.and_part E.and_parts E.a_conjunction E.or_part E.or_parts E.an_expression E.next_argument E.next_arguments E.some_arguments E.all_arguments E.an_item E.next_items E.some_items E.all_items E.a_pair E.next_pair E.next_pairs E.some_pairs E.all_pairs W.as_type W.separator W.end_for W.end_while W.end_if W.then_ W.exit_for W.exit_while W.exit_two W.exit_for_word W.exit_while_word W.exit W.semicolon W.comma W.print_separator W.more_separators W.print_separators T.a_target T.assign T.update_ T.count_ T.targeted T.print_value T.next_values T.print_values T.print_items T.print_ T.return_ T.a_simple T.next_simple T.next_simples T.run T.next_line_arm T.else_if_line_arm T.line_ending T.next_block_arm T.else_if_block_arm T.block_else T.block_ending T.block_if_rest T.line_if_rest T.block_if_line T.line_if_line T.if_line T.step T.for_body T.for_rest T.each_rest T.for_ T.while_ T.simple_statement T.other_plain T.other_line T.empty_line T.line T.block F.default_value F.a_parameter F.next_parameter F.next_parameters F.some_parameters F.all_parameters F.a_rest F.function F.sub F.named_function F.named_line F.file_ending F.functions F.inside F.file R.one R.many_from R.many R.trail_from R.trail R.ended_from R.ended R.end R.finish R.whole
call_statement = file_ok call_statement_tokens [] (body_of (statement.Simple (simple.Call (target (name (codes "g") 2 1) (postfix.Arguments (at 2 2) ((value (primary.Number (at 2 3) (codes "1"))) ∷ (value (primary.Variable (name (codes "y") 2 6))) ∷ []) ∷ []))) ∷ [])) refl

-- print x; 1,
abbrev pub print_statement_tokens : List Tok
print_statement_tokens =
    token kind.Keyword (codes "sub") 1 1
    ∷ token kind.Name (codes "f") 1 5
    ∷ token kind.Sign (codes "(") 1 6
    ∷ token kind.Sign (codes ")") 1 7
    ∷ token kind.Newline (codes "\n") 1 8
    ∷ token kind.Keyword (codes "print") 2 1
    ∷ token kind.Name (codes "x") 2 7
    ∷ token kind.Sign (codes ";") 2 8
    ∷ token kind.Number (codes "1") 2 10
    ∷ token kind.Sign (codes ",") 2 11
    ∷ token kind.Newline (codes "\n") 2 12
    ∷ token kind.Keyword (codes "end") 3 1
    ∷ token kind.Keyword (codes "sub") 3 5
    ∷ []

pub print_statement : IsFile print_statement_tokens (body_of (statement.Simple (simple.Print (at 2 1) (printed.Value (value (primary.Variable (name (codes "x") 2 7))) ∷ printed.Semicolon ∷ printed.Value (value (primary.Number (at 2 10) (codes "1"))) ∷ printed.Comma ∷ [])) ∷ []))
unfolding same_word word_of word_spelled is_alike out-Postfix out L.blank L.newlines L.comma_gap L.newline_gap L.gap L.end_function L.end_sub L.number L.text L.true_ L.false_ L.invalid L.variable L.word_key L.quoted_key L.a_key L.member E.bracketed E.array E.pairs E.anonymous_function E.anonymous_sub E.a_primary E.index E.arguments E.a_postfix E.postfixes E.a_value E.negative E.positive E.a_minus E.product_part E.product_parts E.a_product E.sum_part E.sum_parts E.a_sum E.shift_part E.shift_parts E.a_shift E.comparison_part E.comparison_parts E.a_comparison E.not_ E.plain_negation E.a_negation E.and_part E.and_parts E.a_conjunction E.or_part E.or_parts E.an_expression E.next_argument E.next_arguments E.some_arguments E.all_arguments E.an_item E.next_items E.some_items E.all_items E.a_pair E.next_pair E.next_pairs E.some_pairs E.all_pairs W.as_type W.separator W.end_for W.end_while W.end_if W.then_ W.exit_for W.exit_while W.exit_two W.exit_for_word W.exit_while_word W.exit W.semicolon W.comma W.print_separator W.more_separators W.print_separators T.a_target T.assign T.update_ T.count_ T.targeted T.print_value T.next_values T.print_values T.print_items T.print_ T.return_ T.a_simple T.next_simple T.next_simples T.run T.next_line_arm T.else_if_line_arm T.line_ending T.next_block_arm T.else_if_block_arm T.block_else T.block_ending T.block_if_rest T.line_if_rest T.block_if_line T.line_if_line T.if_line T.step T.for_body T.for_rest T.each_rest T.for_ T.while_ T.simple_statement T.other_plain T.other_line T.empty_line T.line T.block F.default_value F.a_parameter F.next_parameter F.next_parameters F.some_parameters F.all_parameters F.a_rest F.function F.sub F.named_function F.named_line F.file_ending F.functions F.inside F.file R.one R.many_from R.many R.trail_from R.trail R.ended_from R.ended R.end R.finish R.whole
print_statement = file_ok print_statement_tokens [] (body_of (statement.Simple (simple.Print (at 2 1) (printed.Value (value (primary.Variable (name (codes "x") 2 7))) ∷ printed.Semicolon ∷ printed.Value (value (primary.Number (at 2 10) (codes "1"))) ∷ printed.Comma ∷ [])) ∷ [])) refl

-- return x
abbrev pub return_statement_tokens : List Tok
return_statement_tokens =
    token kind.Keyword (codes "sub") 1 1
    ∷ token kind.Name (codes "f") 1 5
    ∷ token kind.Sign (codes "(") 1 6
    ∷ token kind.Sign (codes ")") 1 7
    ∷ token kind.Newline (codes "\n") 1 8
    ∷ token kind.Keyword (codes "return") 2 1
    ∷ token kind.Name (codes "x") 2 8
    ∷ token kind.Newline (codes "\n") 2 9
    ∷ token kind.Keyword (codes "end") 3 1
    ∷ token kind.Keyword (codes "sub") 3 5
    ∷ []

pub return_statement : IsFile return_statement_tokens (body_of (statement.Simple (simple.Return (at 2 1) (Some (value (primary.Variable (name (codes "x") 2 8))))) ∷ []))
unfolding same_word word_of word_spelled is_alike out-Postfix out L.blank L.newlines L.comma_gap L.newline_gap L.gap L.end_function L.end_sub L.number L.text L.true_ L.false_ L.invalid L.variable L.word_key L.quoted_key L.a_key L.member E.bracketed E.array E.pairs E.anonymous_function E.anonymous_sub E.a_primary E.index E.arguments E.a_postfix E.postfixes E.a_value E.negative E.positive E.a_minus E.product_part E.product_parts E.a_product E.sum_part E.sum_parts E.a_sum E.shift_part E.shift_parts E.a_shift E.comparison_part E.comparison_parts E.a_comparison E.not_ E.plain_negation E.a_negation E.and_part E.and_parts E.a_conjunction E.or_part E.or_parts E.an_expression E.next_argument E.next_arguments E.some_arguments E.all_arguments E.an_item E.next_items E.some_items E.all_items E.a_pair E.next_pair E.next_pairs E.some_pairs E.all_pairs W.as_type W.separator W.end_for W.end_while W.end_if W.then_ W.exit_for W.exit_while W.exit_two W.exit_for_word W.exit_while_word W.exit W.semicolon W.comma W.print_separator W.more_separators W.print_separators T.a_target T.assign T.update_ T.count_ T.targeted T.print_value T.next_values T.print_values T.print_items T.print_ T.return_ T.a_simple T.next_simple T.next_simples T.run T.next_line_arm T.else_if_line_arm T.line_ending T.next_block_arm T.else_if_block_arm T.block_else T.block_ending T.block_if_rest T.line_if_rest T.block_if_line T.line_if_line T.if_line T.step T.for_body T.for_rest T.each_rest T.for_ T.while_ T.simple_statement T.other_plain T.other_line T.empty_line T.line T.block F.default_value F.a_parameter F.next_parameter F.next_parameters F.some_parameters F.all_parameters F.a_rest F.function F.sub F.named_function F.named_line F.file_ending F.functions F.inside F.file R.one R.many_from R.many R.trail_from R.trail R.ended_from R.ended R.end R.finish R.whole
return_statement = file_ok return_statement_tokens [] (body_of (statement.Simple (simple.Return (at 2 1) (Some (value (primary.Variable (name (codes "x") 2 8))))) ∷ [])) refl

-- a `while` with an `exit while`
abbrev pub while_statement_tokens : List Tok
while_statement_tokens =
    token kind.Keyword (codes "sub") 1 1
    ∷ token kind.Name (codes "f") 1 5
    ∷ token kind.Sign (codes "(") 1 6
    ∷ token kind.Sign (codes ")") 1 7
    ∷ token kind.Newline (codes "\n") 1 8
    ∷ token kind.Keyword (codes "while") 2 1
    ∷ token kind.Name (codes "x") 2 7
    ∷ token kind.Newline (codes "\n") 2 8
    ∷ token kind.Keyword (codes "exit") 3 1
    ∷ token kind.Keyword (codes "while") 3 6
    ∷ token kind.Newline (codes "\n") 3 11
    ∷ token kind.Keyword (codes "end") 4 1
    ∷ token kind.Keyword (codes "while") 4 5
    ∷ token kind.Newline (codes "\n") 4 10
    ∷ token kind.Keyword (codes "end") 5 1
    ∷ token kind.Keyword (codes "sub") 5 5
    ∷ []

pub while_statement : IsFile while_statement_tokens (body_of (statement.While (at 2 1) (value (primary.Variable (name (codes "x") 2 7))) (statement.Simple (simple.Exit (at 3 1) loop.While) ∷ []) ∷ []))
unfolding same_word word_of word_spelled is_alike out-Postfix out L.blank L.newlines L.comma_gap L.newline_gap L.gap L.end_function L.end_sub L.number L.text L.true_ L.false_ L.invalid L.variable L.word_key L.quoted_key L.a_key L.member E.bracketed E.array E.pairs E.anonymous_function E.anonymous_sub E.a_primary E.index E.arguments E.a_postfix E.postfixes E.a_value E.negative E.positive E.a_minus E.product_part E.product_parts E.a_product E.sum_part E.sum_parts E.a_sum E.shift_part E.shift_parts E.a_shift E.comparison_part E.comparison_parts E.a_comparison E.not_ E.plain_negation E.a_negation E.and_part E.and_parts E.a_conjunction E.or_part E.or_parts E.an_expression E.next_argument E.next_arguments E.some_arguments E.all_arguments E.an_item E.next_items E.some_items E.all_items E.a_pair E.next_pair E.next_pairs E.some_pairs E.all_pairs W.as_type W.separator W.end_for W.end_while W.end_if W.then_ W.exit_for W.exit_while W.exit_two W.exit_for_word W.exit_while_word W.exit W.semicolon W.comma W.print_separator W.more_separators W.print_separators T.a_target T.assign T.update_ T.count_ T.targeted T.print_value T.next_values T.print_values T.print_items T.print_ T.return_ T.a_simple T.next_simple T.next_simples T.run T.next_line_arm T.else_if_line_arm T.line_ending T.next_block_arm T.else_if_block_arm T.block_else T.block_ending T.block_if_rest T.line_if_rest T.block_if_line T.line_if_line T.if_line T.step T.for_body T.for_rest T.each_rest T.for_ T.while_ T.simple_statement T.other_plain T.other_line T.empty_line T.line T.block F.default_value F.a_parameter F.next_parameter F.next_parameters F.some_parameters F.all_parameters F.a_rest F.function F.sub F.named_function F.named_line F.file_ending F.functions F.inside F.file R.one R.many_from R.many R.trail_from R.trail R.ended_from R.ended R.end R.finish R.whole
while_statement = file_ok while_statement_tokens [] (body_of (statement.While (at 2 1) (value (primary.Variable (name (codes "x") 2 7))) (statement.Simple (simple.Exit (at 3 1) loop.While) ∷ []) ∷ [])) refl

-- an `if` with blocks, where `else if` is one arm
abbrev pub block_if_tokens : List Tok
block_if_tokens =
    token kind.Keyword (codes "sub") 1 1
    ∷ token kind.Name (codes "f") 1 5
    ∷ token kind.Sign (codes "(") 1 6
    ∷ token kind.Sign (codes ")") 1 7
    ∷ token kind.Newline (codes "\n") 1 8
    ∷ token kind.Keyword (codes "if") 2 1
    ∷ token kind.Name (codes "x") 2 4
    ∷ token kind.Keyword (codes "then") 2 6
    ∷ token kind.Newline (codes "\n") 2 10
    ∷ token kind.Name (codes "g") 3 1
    ∷ token kind.Sign (codes "(") 3 2
    ∷ token kind.Sign (codes ")") 3 3
    ∷ token kind.Newline (codes "\n") 3 4
    ∷ token kind.Keyword (codes "else") 4 1
    ∷ token kind.Keyword (codes "if") 4 6
    ∷ token kind.Name (codes "y") 4 9
    ∷ token kind.Newline (codes "\n") 4 10
    ∷ token kind.Keyword (codes "else") 5 1
    ∷ token kind.Newline (codes "\n") 5 5
    ∷ token kind.Keyword (codes "end") 6 1
    ∷ token kind.Keyword (codes "if") 6 5
    ∷ token kind.Newline (codes "\n") 6 7
    ∷ token kind.Keyword (codes "end") 7 1
    ∷ token kind.Keyword (codes "sub") 7 5
    ∷ []

pub block_if : IsFile block_if_tokens (body_of (statement.BlockIf (roll-BlockArm (record { place = (at 2 1); condition = (value (primary.Variable (name (codes "x") 2 4))); block = statement.Simple (call (name (codes "g") 3 1) (at 3 2)) ∷ [] })) ((roll-BlockArm (record { place = (at 4 1); condition = (value (primary.Variable (name (codes "y") 4 9))); block = [] })) ∷ []) (Some []) ∷ []))
unfolding same_word word_of word_spelled is_alike out-Postfix out L.blank L.newlines L.comma_gap L.newline_gap L.gap L.end_function L.end_sub L.number L.text L.true_ L.false_ L.invalid L.variable L.word_key L.quoted_key L.a_key L.member E.bracketed E.array E.pairs E.anonymous_function E.anonymous_sub E.a_primary E.index E.arguments E.a_postfix E.postfixes E.a_value E.negative E.positive E.a_minus E.product_part E.product_parts E.a_product E.sum_part E.sum_parts E.a_sum E.shift_part E.shift_parts E.a_shift E.comparison_part E.comparison_parts E.a_comparison E.not_ E.plain_negation E.a_negation E.and_part E.and_parts E.a_conjunction E.or_part E.or_parts E.an_expression E.next_argument E.next_arguments E.some_arguments E.all_arguments E.an_item E.next_items E.some_items E.all_items E.a_pair E.next_pair E.next_pairs E.some_pairs E.all_pairs W.as_type W.separator W.end_for W.end_while W.end_if W.then_ W.exit_for W.exit_while W.exit_two W.exit_for_word W.exit_while_word W.exit W.semicolon W.comma W.print_separator W.more_separators W.print_separators T.a_target T.assign T.update_ T.count_ T.targeted T.print_value T.next_values T.print_values T.print_items T.print_ T.return_ T.a_simple T.next_simple T.next_simples T.run T.next_line_arm T.else_if_line_arm T.line_ending T.next_block_arm T.else_if_block_arm T.block_else T.block_ending T.block_if_rest T.line_if_rest T.block_if_line T.line_if_line T.if_line T.step T.for_body T.for_rest T.each_rest T.for_ T.while_ T.simple_statement T.other_plain T.other_line T.empty_line T.line T.block F.default_value F.a_parameter F.next_parameter F.next_parameters F.some_parameters F.all_parameters F.a_rest F.function F.sub F.named_function F.named_line F.file_ending F.functions F.inside F.file R.one R.many_from R.many R.trail_from R.trail R.ended_from R.ended R.end R.finish R.whole
block_if = file_ok block_if_tokens [] (body_of (statement.BlockIf (roll-BlockArm (record { place = (at 2 1); condition = (value (primary.Variable (name (codes "x") 2 4))); block = statement.Simple (call (name (codes "g") 3 1) (at 3 2)) ∷ [] })) ((roll-BlockArm (record { place = (at 4 1); condition = (value (primary.Variable (name (codes "y") 4 9))); block = [] })) ∷ []) (Some []) ∷ [])) refl

-- an `if` in a line
abbrev pub line_if_tokens : List Tok
line_if_tokens =
    token kind.Keyword (codes "sub") 1 1
    ∷ token kind.Name (codes "f") 1 5
    ∷ token kind.Sign (codes "(") 1 6
    ∷ token kind.Sign (codes ")") 1 7
    ∷ token kind.Newline (codes "\n") 1 8
    ∷ token kind.Keyword (codes "if") 2 1
    ∷ token kind.Name (codes "x") 2 4
    ∷ token kind.Keyword (codes "then") 2 6
    ∷ token kind.Name (codes "g") 2 11
    ∷ token kind.Sign (codes "(") 2 12
    ∷ token kind.Sign (codes ")") 2 13
    ∷ token kind.Sign (codes ":") 2 15
    ∷ token kind.Name (codes "h") 2 17
    ∷ token kind.Sign (codes "(") 2 18
    ∷ token kind.Sign (codes ")") 2 19
    ∷ token kind.Keyword (codes "else") 2 21
    ∷ token kind.Name (codes "k") 2 26
    ∷ token kind.Sign (codes "(") 2 27
    ∷ token kind.Sign (codes ")") 2 28
    ∷ token kind.Newline (codes "\n") 2 29
    ∷ token kind.Keyword (codes "end") 3 1
    ∷ token kind.Keyword (codes "sub") 3 5
    ∷ []

pub line_if : IsFile line_if_tokens (body_of (statement.LineIf (roll-LineArm (record { place = (at 2 1); condition = (value (primary.Variable (name (codes "x") 2 4))); run = (call (name (codes "g") 2 11) (at 2 12) ∷ call (name (codes "h") 2 17) (at 2 18) ∷ []) })) [] (Some (call (name (codes "k") 2 26) (at 2 27) ∷ [])) ∷ []))
unfolding same_word word_of word_spelled is_alike out-Postfix out L.blank L.newlines L.comma_gap L.newline_gap L.gap L.end_function L.end_sub L.number L.text L.true_ L.false_ L.invalid L.variable L.word_key L.quoted_key L.a_key L.member E.bracketed E.array E.pairs E.anonymous_function E.anonymous_sub E.a_primary E.index E.arguments E.a_postfix E.postfixes E.a_value E.negative E.positive E.a_minus E.product_part E.product_parts E.a_product E.sum_part E.sum_parts E.a_sum E.shift_part E.shift_parts E.a_shift E.comparison_part E.comparison_parts E.a_comparison E.not_ E.plain_negation E.a_negation E.and_part E.and_parts E.a_conjunction E.or_part E.or_parts E.an_expression E.next_argument E.next_arguments E.some_arguments E.all_arguments E.an_item E.next_items E.some_items E.all_items E.a_pair E.next_pair E.next_pairs E.some_pairs E.all_pairs W.as_type W.separator W.end_for W.end_while W.end_if W.then_ W.exit_for W.exit_while W.exit_two W.exit_for_word W.exit_while_word W.exit W.semicolon W.comma W.print_separator W.more_separators W.print_separators T.a_target T.assign T.update_ T.count_ T.targeted T.print_value T.next_values T.print_values T.print_items T.print_ T.return_ T.a_simple T.next_simple T.next_simples T.run T.next_line_arm T.else_if_line_arm T.line_ending T.next_block_arm T.else_if_block_arm T.block_else T.block_ending T.block_if_rest T.line_if_rest T.block_if_line T.line_if_line T.if_line T.step T.for_body T.for_rest T.each_rest T.for_ T.while_ T.simple_statement T.other_plain T.other_line T.empty_line T.line T.block F.default_value F.a_parameter F.next_parameter F.next_parameters F.some_parameters F.all_parameters F.a_rest F.function F.sub F.named_function F.named_line F.file_ending F.functions F.inside F.file R.one R.many_from R.many R.trail_from R.trail R.ended_from R.ended R.end R.finish R.whole
line_if = file_ok line_if_tokens [] (body_of (statement.LineIf (roll-LineArm (record { place = (at 2 1); condition = (value (primary.Variable (name (codes "x") 2 4))); run = (call (name (codes "g") 2 11) (at 2 12) ∷ call (name (codes "h") 2 17) (at 2 18) ∷ []) })) [] (Some (call (name (codes "k") 2 26) (at 2 27) ∷ [])) ∷ [])) refl

-- a `for` whose variable is `each`
abbrev pub for_statement_tokens : List Tok
for_statement_tokens =
    token kind.Keyword (codes "sub") 1 1
    ∷ token kind.Name (codes "f") 1 5
    ∷ token kind.Sign (codes "(") 1 6
    ∷ token kind.Sign (codes ")") 1 7
    ∷ token kind.Newline (codes "\n") 1 8
    ∷ token kind.Keyword (codes "for") 2 1
    ∷ token kind.Name (codes "each") 2 5
    ∷ token kind.Sign (codes "=") 2 10
    ∷ token kind.Number (codes "1") 2 12
    ∷ token kind.Keyword (codes "to") 2 14
    ∷ token kind.Number (codes "2") 2 17
    ∷ token kind.Keyword (codes "step") 2 19
    ∷ token kind.Number (codes "3") 2 24
    ∷ token kind.Newline (codes "\n") 2 25
    ∷ token kind.Keyword (codes "next") 3 1
    ∷ token kind.Newline (codes "\n") 3 5
    ∷ token kind.Keyword (codes "end") 4 1
    ∷ token kind.Keyword (codes "sub") 4 5
    ∷ []

pub for_statement : IsFile for_statement_tokens (body_of (statement.For (at 2 1) (name (codes "each") 2 5) (value (primary.Number (at 2 12) (codes "1"))) (value (primary.Number (at 2 17) (codes "2"))) (Some (value (primary.Number (at 2 24) (codes "3")))) [] ∷ []))
unfolding same_word word_of word_spelled is_alike out-Postfix out L.blank L.newlines L.comma_gap L.newline_gap L.gap L.end_function L.end_sub L.number L.text L.true_ L.false_ L.invalid L.variable L.word_key L.quoted_key L.a_key L.member E.bracketed E.array E.pairs E.anonymous_function E.anonymous_sub E.a_primary E.index E.arguments E.a_postfix E.postfixes E.a_value E.negative E.positive E.a_minus E.product_part E.product_parts E.a_product E.sum_part E.sum_parts E.a_sum E.shift_part E.shift_parts E.a_shift E.comparison_part E.comparison_parts E.a_comparison E.not_ E.plain_negation E.a_negation E.and_part E.and_parts E.a_conjunction E.or_part E.or_parts E.an_expression E.next_argument E.next_arguments E.some_arguments E.all_arguments E.an_item E.next_items E.some_items E.all_items E.a_pair E.next_pair E.next_pairs E.some_pairs E.all_pairs W.as_type W.separator W.end_for W.end_while W.end_if W.then_ W.exit_for W.exit_while W.exit_two W.exit_for_word W.exit_while_word W.exit W.semicolon W.comma W.print_separator W.more_separators W.print_separators T.a_target T.assign T.update_ T.count_ T.targeted T.print_value T.next_values T.print_values T.print_items T.print_ T.return_ T.a_simple T.next_simple T.next_simples T.run T.next_line_arm T.else_if_line_arm T.line_ending T.next_block_arm T.else_if_block_arm T.block_else T.block_ending T.block_if_rest T.line_if_rest T.block_if_line T.line_if_line T.if_line T.step T.for_body T.for_rest T.each_rest T.for_ T.while_ T.simple_statement T.other_plain T.other_line T.empty_line T.line T.block F.default_value F.a_parameter F.next_parameter F.next_parameters F.some_parameters F.all_parameters F.a_rest F.function F.sub F.named_function F.named_line F.file_ending F.functions F.inside F.file R.one R.many_from R.many R.trail_from R.trail R.ended_from R.ended R.end R.finish R.whole
for_statement = file_ok for_statement_tokens [] (body_of (statement.For (at 2 1) (name (codes "each") 2 5) (value (primary.Number (at 2 12) (codes "1"))) (value (primary.Number (at 2 17) (codes "2"))) (Some (value (primary.Number (at 2 24) (codes "3")))) [] ∷ [])) refl

-- a `for each`
abbrev pub for_each_tokens : List Tok
for_each_tokens =
    token kind.Keyword (codes "sub") 1 1
    ∷ token kind.Name (codes "f") 1 5
    ∷ token kind.Sign (codes "(") 1 6
    ∷ token kind.Sign (codes ")") 1 7
    ∷ token kind.Newline (codes "\n") 1 8
    ∷ token kind.Keyword (codes "for") 2 1
    ∷ token kind.Name (codes "each") 2 5
    ∷ token kind.Name (codes "k") 2 10
    ∷ token kind.Name (codes "in") 2 12
    ∷ token kind.Name (codes "x") 2 15
    ∷ token kind.Newline (codes "\n") 2 16
    ∷ token kind.Keyword (codes "end") 3 1
    ∷ token kind.Keyword (codes "for") 3 5
    ∷ token kind.Newline (codes "\n") 3 8
    ∷ token kind.Keyword (codes "end") 4 1
    ∷ token kind.Keyword (codes "sub") 4 5
    ∷ []

pub for_each : IsFile for_each_tokens (body_of (statement.ForEach (at 2 1) (name (codes "k") 2 10) (value (primary.Variable (name (codes "x") 2 15))) [] ∷ []))
unfolding same_word word_of word_spelled is_alike out-Postfix out L.blank L.newlines L.comma_gap L.newline_gap L.gap L.end_function L.end_sub L.number L.text L.true_ L.false_ L.invalid L.variable L.word_key L.quoted_key L.a_key L.member E.bracketed E.array E.pairs E.anonymous_function E.anonymous_sub E.a_primary E.index E.arguments E.a_postfix E.postfixes E.a_value E.negative E.positive E.a_minus E.product_part E.product_parts E.a_product E.sum_part E.sum_parts E.a_sum E.shift_part E.shift_parts E.a_shift E.comparison_part E.comparison_parts E.a_comparison E.not_ E.plain_negation E.a_negation E.and_part E.and_parts E.a_conjunction E.or_part E.or_parts E.an_expression E.next_argument E.next_arguments E.some_arguments E.all_arguments E.an_item E.next_items E.some_items E.all_items E.a_pair E.next_pair E.next_pairs E.some_pairs E.all_pairs W.as_type W.separator W.end_for W.end_while W.end_if W.then_ W.exit_for W.exit_while W.exit_two W.exit_for_word W.exit_while_word W.exit W.semicolon W.comma W.print_separator W.more_separators W.print_separators T.a_target T.assign T.update_ T.count_ T.targeted T.print_value T.next_values T.print_values T.print_items T.print_ T.return_ T.a_simple T.next_simple T.next_simples T.run T.next_line_arm T.else_if_line_arm T.line_ending T.next_block_arm T.else_if_block_arm T.block_else T.block_ending T.block_if_rest T.line_if_rest T.block_if_line T.line_if_line T.if_line T.step T.for_body T.for_rest T.each_rest T.for_ T.while_ T.simple_statement T.other_plain T.other_line T.empty_line T.line T.block F.default_value F.a_parameter F.next_parameter F.next_parameters F.some_parameters F.all_parameters F.a_rest F.function F.sub F.named_function F.named_line F.file_ending F.functions F.inside F.file R.one R.many_from R.many R.trail_from R.trail R.ended_from R.ended R.end R.finish R.whole
for_each = file_ok for_each_tokens [] (body_of (statement.ForEach (at 2 1) (name (codes "k") 2 10) (value (primary.Variable (name (codes "x") 2 15))) [] ∷ [])) refl
