-- Each reading of a parameter, a function and a file reads the form of its name.
use Rattle.std.proofs.Common.{ℕ, true, false, List, [], ◌∷◌, refl}
use Rattle.grammar_rules.specs.declared.word.Word.TheVariants as w
use Rattle.grammar_rules.specs.Words.{same_word, is_name}
use Rattle.grammar_rules.specs.Rules.{Pure, Either, Ending, Ended, ◌>>◌}
use Rattle.grammar_rules.proofs.Same.{good_same, same_either, same_splits, same_self, alone}
use Rattle.grammar_rules.proofs.Good.{Good, any, one_good, class_good, pure_good, then_good, many_good, either_good, good_as}
use Rattle.grammar_rules.proofs.Rows.{optional_good, ended_good}
use Rattle.brs_grammar.specs.declared.tree.Expression.{Expression}
use Rattle.brs_grammar.specs.declared.tree.NamedFunction.{NamedFunction}
use Rattle.brs_grammar.specs.declared.tree.Parameter.{Parameter}
use Rattle.brs_grammar.specs.declared.tree.Rest.{Rest}
use Rattle.brs_grammar.specs.Expressions as X
use Rattle.brs_grammar.specs.Expressions.{name_of}
use Rattle.brs_grammar.specs.Functions as G
use Rattle.brs_grammar.specs.ReadExpressions as R
use Rattle.brs_grammar.specs.ReadExpressions.{is, begins_expression}
use Rattle.brs_grammar.specs.ReadFunctions as S
use Rattle.brs_grammar.specs.ReadStatements.{begins_named}
use Rattle.brs_grammar.proofs.Gaps.{blank_good}
use Rattle.brs_grammar.proofs.Expressions.{Within, stops_expression, stops_block, end_function_good, end_sub_good, an_expression_good}
use Rattle.brs_grammar.proofs.StatementWords.{stops_parameter, stops_parameters, begins_file, stops_file, as_type_good, separator_good}
use Rattle.brs_grammar.proofs.Statements.{block_good}

module _ (i : X.Inside) (j : R.Inside) where
  pub default_value_good : (n : ℕ) → Within n i j → Good Expression (G.Default i) false (is w.Equal) stops_expression (S.default_value n j)
  unfolding same_word G.Default S.default_value
  default_value_good n inner = good_as (is w.Equal) stops_expression (then_good (one_good w.Equal refl refl) (λ _. an_expression_good i j n inner) refl) refl refl

  pub a_parameter_good : (n : ℕ) → Within n i j → Good Parameter (G.AParameter i) false is_name stops_parameter (S.a_parameter n j)
  unfolding same_word G.AParameter S.a_parameter
  a_parameter_good n inner = good_as is_name stops_parameter (then_good (class_good is_name w.Name refl refl refl) (λ t. then_good (optional_good (default_value_good n inner).meets) (λ d. then_good (optional_good (as_type_good).meets) (λ k. pure_good _) refl) refl) refl) refl refl

  pub next_parameter_good : (n : ℕ) → Within n i j → Good (List Parameter) (G.NextParameter i) false (is w.Comma) stops_parameter (S.next_parameter n j)
  unfolding same_word G.NextParameter S.next_parameter
  next_parameter_good n inner = good_as (is w.Comma) stops_parameter (then_good (one_good w.Comma refl refl) (λ _. then_good (a_parameter_good n inner) (λ x. pure_good _) refl) refl) refl refl

  pub some_parameters_good : (n : ℕ) → Within n i j → Good (List Parameter) (G.SomeParameters i) false is_name stops_parameters (S.some_parameters n j)
  unfolding same_word G.SomeParameters S.some_parameters S.next_parameters
  some_parameters_good n inner = good_as is_name stops_parameters (then_good (a_parameter_good n inner) (λ x. then_good (many_good (next_parameter_good n inner).meets refl refl) (λ more. pure_good _) refl) refl) refl refl

  pub all_parameters_good : (n : ℕ) → Within n i j → Good (List Parameter) (G.AllParameters i) true is_name stops_parameters (S.all_parameters n j)
  unfolding same_word S.all_parameters
  all_parameters_good n inner = good_as is_name stops_parameters (either_good (some_parameters_good n inner).meets (pure_good _) refl) refl refl

  pub a_rest_good : (n : ℕ) → Within n i j → Good Rest (G.ARest i) false (is w.Open) stops_block (S.a_rest n j)
  unfolding same_word G.ARest S.a_rest
  a_rest_good n inner = good_as (is w.Open) stops_block (then_good (one_good w.Open refl refl) (λ _. then_good (all_parameters_good n inner) (λ xs. then_good (one_good w.Close refl refl) (λ _. then_good (optional_good (as_type_good).meets) (λ k. then_good (separator_good) (λ _. then_good (block_good i j n inner) (λ b. pure_good _) refl) refl) refl) refl) refl) refl) refl refl

  pub function_good : (n : ℕ) → Within n i j → Good NamedFunction (G.Function i) false (is w.Function) any (S.function n j)
  unfolding same_word G.Function S.function
  function_good n inner = good_as (is w.Function) any (then_good (one_good w.Function refl refl) (λ t. then_good (class_good is_name w.Name refl refl refl) (λ x. then_good (a_rest_good n inner) (λ r. then_good (end_function_good) (λ _. pure_good _) refl) refl) refl) refl) refl refl

  pub sub_good : (n : ℕ) → Within n i j → Good NamedFunction (G.Sub i) false (is w.Sub) any (S.sub n j)
  unfolding same_word G.Sub S.sub
  sub_good n inner = good_as (is w.Sub) any (then_good (one_good w.Sub refl refl) (λ t. then_good (class_good is_name w.Name refl refl refl) (λ x. then_good (a_rest_good n inner) (λ r. then_good (end_sub_good) (λ _. pure_good _) refl) refl) refl) refl) refl refl

  pub named_function_good : (n : ℕ) → Within n i j → Good NamedFunction (G.Named i) false begins_named any (S.named_function n j)
  unfolding same_word S.named_function
  named_function_good n inner = good_as begins_named any (either_good (function_good n inner).meets (sub_good n inner) refl) refl refl

  named_line_good : (x : NamedFunction) (n : ℕ) → Good (List NamedFunction) (X.word w.Newline >> Pure (x ∷ [])) false (is w.Newline) any (S.named_line n j x)
  unfolding same_word S.named_line
  named_line_good x n = good_as (is w.Newline) any (then_good (one_good w.Newline refl refl) (λ _. pure_good _) refl) refl refl

  file_ending_good : (n : ℕ) → Within n i j
      → Good (Ending NamedFunction NamedFunction) (Ended (Either X.Blank (G.NamedLine i)) (G.Named i)) true begins_file stops_file (S.file_ending n j)
  unfolding same_word G.NamedLine S.file_ending
  file_ending_good n inner =
      good_same (same_splits (same_self _) (λ xs. same_splits (same_either (same_splits (alone (G.Named i)) (λ y. same_self _)) (same_self _)) (λ y. same_self _)))
      (good_as begins_file stops_file
      (ended_good blank_good (named_function_good n inner) (λ x. named_line_good x n) (λ x. pure_good x) refl refl refl refl refl refl refl)
      refl refl)

  pub functions_good : (n : ℕ) → Within n i j → Good (List NamedFunction) (G.File i) true begins_file stops_file (S.functions n j)
  unfolding same_word G.File S.functions
  functions_good n inner = good_as begins_file stops_file (then_good (file_ending_good n inner) (λ x. pure_good _) refl) refl refl
