-- Worked first faults, which the checker computes.
use Rattle.std.proofs.Common.{ℕ, List, [], ◌∷◌, refl}
use lib.Chars.{codes}
use denote.Hole.Carrier.{out}
use Rattle.brs_tokens.specs.Tok.{Tok}
use Rattle.brs_tokens.specs.declared.token.TokenKind.{TokenKind}
use Rattle.brs_tokens.specs.declared.token.TokenKind.TheVariants as kind
use Rattle.grammar_rules.specs.Words.{same_word, word_of, word_spelled, is_alike}
use Rattle.grammar_rules.specs.Reading as R
use Rattle.brs_grammar.specs.declared.tree.Minus.TheViews.{out-Postfix}
use Rattle.brs_grammar.specs.ReadLeaves as L
use Rattle.brs_grammar.specs.ReadExpressions as E
use Rattle.brs_grammar.specs.ReadStatementWords as W
use Rattle.brs_grammar.specs.ReadStatements as T
use Rattle.brs_grammar.specs.ReadFunctions as F
use Rattle.brs_grammar.specs.Grammar.{IsFirstFault}
use Rattle.brs_grammar.proofs.Whole.{file_fault}

abbrev token : TokenKind → List ℕ → ℕ → ℕ → Tok
token k slice line column = record { kind = k; slice = slice; line = line; column = column }

-- `a.b` alone is no statement: the fault is the line end behind it
abbrev pub member_alone_tokens : List Tok
member_alone_tokens =
    token kind.Keyword (codes "sub") 1 1
    ∷ token kind.Name (codes "main") 1 5
    ∷ token kind.Sign (codes "(") 1 9
    ∷ token kind.Sign (codes ")") 1 10
    ∷ token kind.Newline (codes "\n") 1 11
    ∷ token kind.Name (codes "a") 2 1
    ∷ token kind.Sign (codes ".") 2 2
    ∷ token kind.Name (codes "b") 2 3
    ∷ token kind.Newline (codes "\n") 2 4
    ∷ token kind.Keyword (codes "end") 3 1
    ∷ token kind.Keyword (codes "sub") 3 5
    ∷ token kind.Newline (codes "\n") 3 8
    ∷ []

pub member_alone : IsFirstFault member_alone_tokens 8
unfolding same_word word_of word_spelled is_alike out-Postfix out L.blank L.newlines L.comma_gap L.newline_gap L.gap L.end_function L.end_sub L.number L.text L.true_ L.false_ L.invalid L.variable L.word_key L.quoted_key L.a_key L.member E.bracketed E.array E.pairs E.anonymous_function E.anonymous_sub E.a_primary E.index E.arguments E.a_postfix E.postfixes E.a_value E.negative E.positive E.a_minus E.product_part E.product_parts E.a_product E.sum_part E.sum_parts E.a_sum E.shift_part E.shift_parts E.a_shift E.comparison_part E.comparison_parts E.a_comparison E.not_ E.plain_negation E.a_negation E.and_part E.and_parts E.a_conjunction E.or_part E.or_parts E.an_expression E.next_argument E.next_arguments E.some_arguments E.all_arguments E.an_item E.next_items E.some_items E.all_items E.a_pair E.next_pair E.next_pairs E.some_pairs E.all_pairs W.as_type W.separator W.end_for W.end_while W.end_if W.then_ W.exit_for W.exit_while W.exit_two W.exit_for_word W.exit_while_word W.exit W.semicolon W.comma W.print_separator W.more_separators W.print_separators T.a_target T.assign T.update_ T.count_ T.targeted T.print_value T.next_values T.print_values T.print_items T.print_ T.return_ T.a_simple T.next_simple T.next_simples T.run T.next_line_arm T.else_if_line_arm T.line_ending T.next_block_arm T.else_if_block_arm T.block_else T.block_ending T.block_if_rest T.line_if_rest T.block_if_line T.line_if_line T.if_line T.step T.for_body T.for_rest T.each_rest T.for_ T.while_ T.simple_statement T.other_plain T.other_line T.empty_line T.line T.block F.default_value F.a_parameter F.next_parameter F.next_parameters F.some_parameters F.all_parameters F.a_rest F.function F.sub F.named_function F.named_line F.file_ending F.functions F.inside F.file R.one R.many_from R.many R.trail_from R.trail R.ended_from R.ended R.end R.finish R.whole
member_alone = file_fault member_alone_tokens ((token kind.Newline (codes "\n") 2 4) ∷ (token kind.Keyword (codes "end") 3 1) ∷ (token kind.Keyword (codes "sub") 3 5) ∷ (token kind.Newline (codes "\n") 3 8) ∷ []) refl

-- a call is not assigned to: the fault is the `=`
abbrev pub call_assigned_tokens : List Tok
call_assigned_tokens =
    token kind.Keyword (codes "sub") 1 1
    ∷ token kind.Name (codes "main") 1 5
    ∷ token kind.Sign (codes "(") 1 9
    ∷ token kind.Sign (codes ")") 1 10
    ∷ token kind.Newline (codes "\n") 1 11
    ∷ token kind.Name (codes "f") 2 1
    ∷ token kind.Sign (codes "(") 2 2
    ∷ token kind.Name (codes "x") 2 3
    ∷ token kind.Sign (codes ")") 2 4
    ∷ token kind.Sign (codes "=") 2 6
    ∷ token kind.Number (codes "3") 2 8
    ∷ token kind.Newline (codes "\n") 2 9
    ∷ token kind.Keyword (codes "end") 3 1
    ∷ token kind.Keyword (codes "sub") 3 5
    ∷ token kind.Newline (codes "\n") 3 8
    ∷ []

pub call_assigned : IsFirstFault call_assigned_tokens 9
unfolding same_word word_of word_spelled is_alike out-Postfix out L.blank L.newlines L.comma_gap L.newline_gap L.gap L.end_function L.end_sub L.number L.text L.true_ L.false_ L.invalid L.variable L.word_key L.quoted_key L.a_key L.member E.bracketed E.array E.pairs E.anonymous_function E.anonymous_sub E.a_primary E.index E.arguments E.a_postfix E.postfixes E.a_value E.negative E.positive E.a_minus E.product_part E.product_parts E.a_product E.sum_part E.sum_parts E.a_sum E.shift_part E.shift_parts E.a_shift E.comparison_part E.comparison_parts E.a_comparison E.not_ E.plain_negation E.a_negation E.and_part E.and_parts E.a_conjunction E.or_part E.or_parts E.an_expression E.next_argument E.next_arguments E.some_arguments E.all_arguments E.an_item E.next_items E.some_items E.all_items E.a_pair E.next_pair E.next_pairs E.some_pairs E.all_pairs W.as_type W.separator W.end_for W.end_while W.end_if W.then_ W.exit_for W.exit_while W.exit_two W.exit_for_word W.exit_while_word W.exit W.semicolon W.comma W.print_separator W.more_separators W.print_separators T.a_target T.assign T.update_ T.count_ T.targeted T.print_value T.next_values T.print_values T.print_items T.print_ T.return_ T.a_simple T.next_simple T.next_simples T.run T.next_line_arm T.else_if_line_arm T.line_ending T.next_block_arm T.else_if_block_arm T.block_else T.block_ending T.block_if_rest T.line_if_rest T.block_if_line T.line_if_line T.if_line T.step T.for_body T.for_rest T.each_rest T.for_ T.while_ T.simple_statement T.other_plain T.other_line T.empty_line T.line T.block F.default_value F.a_parameter F.next_parameter F.next_parameters F.some_parameters F.all_parameters F.a_rest F.function F.sub F.named_function F.named_line F.file_ending F.functions F.inside F.file R.one R.many_from R.many R.trail_from R.trail R.ended_from R.ended R.end R.finish R.whole
call_assigned = file_fault call_assigned_tokens ((token kind.Sign (codes "=") 2 6) ∷ (token kind.Number (codes "3") 2 8) ∷ (token kind.Newline (codes "\n") 2 9) ∷ (token kind.Keyword (codes "end") 3 1) ∷ (token kind.Keyword (codes "sub") 3 5) ∷ (token kind.Newline (codes "\n") 3 8) ∷ []) refl

-- an array that is not closed: the fault is the end
abbrev pub open_array_tokens : List Tok
open_array_tokens =
    token kind.Keyword (codes "sub") 1 1
    ∷ token kind.Name (codes "main") 1 5
    ∷ token kind.Sign (codes "(") 1 9
    ∷ token kind.Sign (codes ")") 1 10
    ∷ token kind.Newline (codes "\n") 1 11
    ∷ token kind.Name (codes "x") 2 1
    ∷ token kind.Sign (codes "=") 2 3
    ∷ token kind.Sign (codes "[") 2 5
    ∷ token kind.Number (codes "1") 2 6
    ∷ token kind.Newline (codes "\n") 2 7
    ∷ []

pub open_array : IsFirstFault open_array_tokens 10
unfolding same_word word_of word_spelled is_alike out-Postfix out L.blank L.newlines L.comma_gap L.newline_gap L.gap L.end_function L.end_sub L.number L.text L.true_ L.false_ L.invalid L.variable L.word_key L.quoted_key L.a_key L.member E.bracketed E.array E.pairs E.anonymous_function E.anonymous_sub E.a_primary E.index E.arguments E.a_postfix E.postfixes E.a_value E.negative E.positive E.a_minus E.product_part E.product_parts E.a_product E.sum_part E.sum_parts E.a_sum E.shift_part E.shift_parts E.a_shift E.comparison_part E.comparison_parts E.a_comparison E.not_ E.plain_negation E.a_negation E.and_part E.and_parts E.a_conjunction E.or_part E.or_parts E.an_expression E.next_argument E.next_arguments E.some_arguments E.all_arguments E.an_item E.next_items E.some_items E.all_items E.a_pair E.next_pair E.next_pairs E.some_pairs E.all_pairs W.as_type W.separator W.end_for W.end_while W.end_if W.then_ W.exit_for W.exit_while W.exit_two W.exit_for_word W.exit_while_word W.exit W.semicolon W.comma W.print_separator W.more_separators W.print_separators T.a_target T.assign T.update_ T.count_ T.targeted T.print_value T.next_values T.print_values T.print_items T.print_ T.return_ T.a_simple T.next_simple T.next_simples T.run T.next_line_arm T.else_if_line_arm T.line_ending T.next_block_arm T.else_if_block_arm T.block_else T.block_ending T.block_if_rest T.line_if_rest T.block_if_line T.line_if_line T.if_line T.step T.for_body T.for_rest T.each_rest T.for_ T.while_ T.simple_statement T.other_plain T.other_line T.empty_line T.line T.block F.default_value F.a_parameter F.next_parameter F.next_parameters F.some_parameters F.all_parameters F.a_rest F.function F.sub F.named_function F.named_line F.file_ending F.functions F.inside F.file R.one R.many_from R.many R.trail_from R.trail R.ended_from R.ended R.end R.finish R.whole
open_array = file_fault open_array_tokens ([]) refl

-- no `:` follows an `else`: the fault is the `:`
abbrev pub colon_after_else_tokens : List Tok
colon_after_else_tokens =
    token kind.Keyword (codes "sub") 1 1
    ∷ token kind.Name (codes "main") 1 5
    ∷ token kind.Sign (codes "(") 1 9
    ∷ token kind.Sign (codes ")") 1 10
    ∷ token kind.Newline (codes "\n") 1 11
    ∷ token kind.Keyword (codes "if") 2 1
    ∷ token kind.Name (codes "a") 2 4
    ∷ token kind.Keyword (codes "then") 2 6
    ∷ token kind.Name (codes "b") 2 11
    ∷ token kind.Sign (codes "(") 2 12
    ∷ token kind.Sign (codes ")") 2 13
    ∷ token kind.Keyword (codes "else") 2 15
    ∷ token kind.Sign (codes ":") 2 20
    ∷ token kind.Name (codes "c") 2 22
    ∷ token kind.Sign (codes "(") 2 23
    ∷ token kind.Sign (codes ")") 2 24
    ∷ token kind.Newline (codes "\n") 2 25
    ∷ token kind.Keyword (codes "end") 3 1
    ∷ token kind.Keyword (codes "sub") 3 5
    ∷ token kind.Newline (codes "\n") 3 8
    ∷ []

pub colon_after_else : IsFirstFault colon_after_else_tokens 12
unfolding same_word word_of word_spelled is_alike out-Postfix out L.blank L.newlines L.comma_gap L.newline_gap L.gap L.end_function L.end_sub L.number L.text L.true_ L.false_ L.invalid L.variable L.word_key L.quoted_key L.a_key L.member E.bracketed E.array E.pairs E.anonymous_function E.anonymous_sub E.a_primary E.index E.arguments E.a_postfix E.postfixes E.a_value E.negative E.positive E.a_minus E.product_part E.product_parts E.a_product E.sum_part E.sum_parts E.a_sum E.shift_part E.shift_parts E.a_shift E.comparison_part E.comparison_parts E.a_comparison E.not_ E.plain_negation E.a_negation E.and_part E.and_parts E.a_conjunction E.or_part E.or_parts E.an_expression E.next_argument E.next_arguments E.some_arguments E.all_arguments E.an_item E.next_items E.some_items E.all_items E.a_pair E.next_pair E.next_pairs E.some_pairs E.all_pairs W.as_type W.separator W.end_for W.end_while W.end_if W.then_ W.exit_for W.exit_while W.exit_two W.exit_for_word W.exit_while_word W.exit W.semicolon W.comma W.print_separator W.more_separators W.print_separators T.a_target T.assign T.update_ T.count_ T.targeted T.print_value T.next_values T.print_values T.print_items T.print_ T.return_ T.a_simple T.next_simple T.next_simples T.run T.next_line_arm T.else_if_line_arm T.line_ending T.next_block_arm T.else_if_block_arm T.block_else T.block_ending T.block_if_rest T.line_if_rest T.block_if_line T.line_if_line T.if_line T.step T.for_body T.for_rest T.each_rest T.for_ T.while_ T.simple_statement T.other_plain T.other_line T.empty_line T.line T.block F.default_value F.a_parameter F.next_parameter F.next_parameters F.some_parameters F.all_parameters F.a_rest F.function F.sub F.named_function F.named_line F.file_ending F.functions F.inside F.file R.one R.many_from R.many R.trail_from R.trail R.ended_from R.ended R.end R.finish R.whole
colon_after_else = file_fault colon_after_else_tokens ((token kind.Sign (codes ":") 2 20) ∷ (token kind.Name (codes "c") 2 22) ∷ (token kind.Sign (codes "(") 2 23) ∷ (token kind.Sign (codes ")") 2 24) ∷ (token kind.Newline (codes "\n") 2 25) ∷ (token kind.Keyword (codes "end") 3 1) ∷ (token kind.Keyword (codes "sub") 3 5) ∷ (token kind.Newline (codes "\n") 3 8) ∷ []) refl
