-- Each reading of a small part of a statement reads the form of its name, and where each form ends.
use Rattle.std.proofs.Common.{Bool, true, false, ◌||◌, not, List, Option, refl}
use Rattle.grammar_rules.specs.declared.word.Word.{Word}
use Rattle.grammar_rules.specs.declared.word.Word.TheVariants as w
use Rattle.grammar_rules.specs.Words.{place_of, same_word, is_name}
use Rattle.grammar_rules.specs.Rules.{Pure, Either, ◌>>◌}
use Rattle.grammar_rules.specs.Reading.{choose}
use Rattle.grammar_rules.proofs.Same.{good_same, factored}
use Rattle.grammar_rules.proofs.Good.{Good, any, one_good, class_good, pure_good, then_good, many_good, either_good, meets_as, good_as}
use Rattle.grammar_rules.proofs.Rows.{optional_good}
use Rattle.brs_tokens.specs.Tok.{Tok}
use Rattle.brs_grammar.specs.declared.tree.LoopKind.TheVariants as loop
use Rattle.brs_grammar.specs.declared.tree.PrintItem.{PrintItem}
use Rattle.brs_grammar.specs.declared.tree.Simple.{Simple}
use Rattle.brs_grammar.specs.declared.tree.Simple.TheVariants as simple
use Rattle.brs_grammar.specs.declared.tree.TypeWord.{TypeWord}
use Rattle.brs_grammar.specs.Expressions as X
use Rattle.brs_grammar.specs.Expressions.{name_of}
use Rattle.brs_grammar.specs.StatementWords as G
use Rattle.brs_grammar.specs.StatementWords.{is_type, is_update_sign, is_count_sign}
use Rattle.brs_grammar.specs.ReadExpressions.{is, begins_expression}
use Rattle.brs_grammar.specs.ReadStatementWords as S
use Rattle.brs_grammar.specs.ReadStatementWords.{begins_separator, begins_end_for, begins_end_while, begins_end_if, begins_exit, begins_print_separator, begins_print, begins_simple, begins_line, begins_named}
use Rattle.brs_grammar.proofs.Expressions.{goes_expression}

-- ---- where a form ends: before each word that does not go on

abbrev pub stops_then_word : Word → Bool
stops_then_word k = not (is w.Then k)

abbrev pub stops_separators : Word → Bool
stops_separators k = not (begins_print_separator k)

abbrev pub begins_target_rest : Word → Bool
begins_target_rest k = is w.Equal k || (is_update_sign k || is_count_sign k)

abbrev pub stops_print : Word → Bool
stops_print k = not (begins_print_separator k || (goes_expression k || begins_expression k))

abbrev pub begins_print_items : Word → Bool
begins_print_items k = begins_print_separator k || begins_expression k

abbrev pub stops_return : Word → Bool
stops_return k = not (goes_expression k || begins_expression k)

abbrev pub goes_run : Word → Bool
goes_run k = is w.Colon k || (begins_print_separator k || (goes_expression k || begins_expression k))

abbrev pub stops_run : Word → Bool
stops_run k = not (goes_run k)

abbrev pub begins_else : Word → Bool
begins_else k = is w.ElseIf k || is w.Else k

abbrev pub stops_line_ending : Word → Bool
stops_line_ending k = not (is w.If k || (begins_else k || goes_run k))

abbrev pub stops_block_ending : Word → Bool
stops_block_ending k = not (begins_else k || begins_line k)

abbrev pub begins_other_plain : Word → Bool
begins_other_plain k = begins_simple k || (is w.For k || is w.While k)

abbrev pub begins_for_variable : Word → Bool
begins_for_variable k = is w.Equal k || is_name k

abbrev pub begins_if_rest : Word → Bool
begins_if_rest k = is w.Newline k || begins_simple k

abbrev pub stops_parameter : Word → Bool
stops_parameter k = not (goes_expression k || is w.As k)

abbrev pub stops_parameters : Word → Bool
stops_parameters k = not (goes_expression k || (is w.Comma k || is_name k))

abbrev pub begins_file : Word → Bool
begins_file k = is w.Newline k || begins_named k

abbrev pub stops_file : Word → Bool
stops_file k = not (begins_file k)

-- ---- forms

pub as_type_good : Good TypeWord (G.AsType) false (is w.As) any (S.as_type)
unfolding same_word G.AsType S.as_type
as_type_good = good_as (is w.As) any (then_good (one_good w.As refl refl) (λ _. then_good (class_good is_type w.Integer refl refl refl) (λ t. pure_good _) refl) refl) refl refl

pub separator_good : Good Tok G.Separator false begins_separator any S.separator
unfolding same_word G.Separator S.separator
separator_good = good_as begins_separator any (either_good (one_good w.Newline refl refl).meets (one_good w.Colon refl refl) refl) refl refl

pub end_for_good : Good Tok G.EndFor false begins_end_for any S.end_for
unfolding same_word G.EndFor S.end_for
end_for_good = good_as begins_end_for any (either_good (one_good w.Next refl refl).meets (either_good (meets_as (is w.EndWord) any (then_good (one_good w.EndWord refl refl) (λ _. one_good w.For refl refl) refl).meets refl refl) (one_good w.EndFor refl refl) refl) refl) refl refl

pub end_while_good : Good Tok G.EndWhile false begins_end_while any S.end_while
unfolding same_word G.EndWhile S.end_while
end_while_good = good_as begins_end_while any (either_good (meets_as (is w.EndWord) any (then_good (one_good w.EndWord refl refl) (λ _. one_good w.While refl refl) refl).meets refl refl) (one_good w.EndWhile refl refl) refl) refl refl

pub end_if_good : Good Tok G.EndIf false begins_end_if any S.end_if
unfolding same_word G.EndIf S.end_if
end_if_good = good_as begins_end_if any (either_good (meets_as (is w.EndWord) any (then_good (one_good w.EndWord refl refl) (λ _. one_good w.If refl refl) refl).meets refl refl) (one_good w.EndIf refl refl) refl) refl refl

pub then_good_ : Good (Option Tok) G.Then true (is w.Then) stops_then_word S.then_
unfolding same_word G.Then S.then_
then_good_ = good_as (is w.Then) stops_then_word (optional_good (one_good w.Then refl refl).meets) refl refl

-- the two forms that begin with `exit`
pub exit_two_good : Good Simple (Either G.ExitFor G.ExitWhile) false (is w.Exit) any S.exit_two
unfolding same_word G.ExitFor G.ExitWhile S.exit_two S.exit_for S.exit_while
exit_two_good =
    good_as (is w.Exit) any
    (good_same (factored (X.word w.Exit) (λ t. X.word w.For >> Pure (simple.Exit (place_of t) loop.For)) (λ t. X.word w.While >> Pure (simple.Exit (place_of t) loop.While)))
    (then_good (one_good w.Exit refl refl) (λ t. good_as (λ k. is w.For k || is w.While k) any (either_good (meets_as (is w.For) any (then_good (one_good w.For refl refl) (λ _. pure_good _) refl).meets refl refl) (then_good (one_good w.While refl refl) (λ _. pure_good _) refl) refl) refl refl) refl))
    refl refl

pub exit_words_good : Good Simple (Either G.ExitForWord G.ExitWhileWord) false (λ k. is w.ExitFor k || is w.ExitWhile k) any (choose (is w.ExitFor) S.exit_for_word S.exit_while_word)
unfolding same_word G.ExitForWord G.ExitWhileWord S.exit_for_word S.exit_while_word
exit_words_good =
    good_as (λ k. is w.ExitFor k || is w.ExitWhile k) any
    (either_good (meets_as (is w.ExitFor) any (then_good (one_good w.ExitFor refl refl) (λ t. pure_good _) refl).meets refl refl) (then_good (one_good w.ExitWhile refl refl) (λ t. pure_good _) refl) refl)
    refl refl

pub exit_good : Good Simple G.Exit false begins_exit any S.exit
unfolding same_word S.exit
exit_good = good_as begins_exit any (either_good exit_two_good.meets exit_words_good refl) refl refl

pub semicolon_good : Good (List PrintItem) (G.Semicolon) false (is w.Semicolon) any (S.semicolon)
unfolding same_word G.Semicolon S.semicolon
semicolon_good = good_as (is w.Semicolon) any (then_good (one_good w.Semicolon refl refl) (λ _. pure_good _) refl) refl refl

pub comma_good : Good (List PrintItem) (G.Comma) false (is w.Comma) any (S.comma)
unfolding same_word G.Comma S.comma
comma_good = good_as (is w.Comma) any (then_good (one_good w.Comma refl refl) (λ _. pure_good _) refl) refl refl

pub print_separator_good : Good (List PrintItem) (G.PrintSeparator) false begins_print_separator any (S.print_separator)
unfolding same_word S.print_separator
print_separator_good = good_as begins_print_separator any (either_good semicolon_good.meets comma_good refl) refl refl

pub print_separators_good : Good (List PrintItem) (G.PrintSeparators) false begins_print_separator stops_separators (S.print_separators)
unfolding same_word G.PrintSeparators S.print_separators S.more_separators
print_separators_good = good_as begins_print_separator stops_separators (then_good (print_separator_good) (λ x. then_good (many_good (print_separator_good).meets refl refl) (λ more. pure_good _) refl) refl) refl refl
